use Rattle.std.proofs.Common.{◌≡◌, ◌++◌, ◌∙◌, ap, subst, sym, take}
use Rattle.std.specs.Char.{encode_utf8}
use Rattle.std.specs.List.{flat_map}
use Rattle.std.specs.Str.{IsCharBoundary, chars}
use Rattle.std.specs.Str.Iter.{chars_rest}
use Rattle.scr_windows.specs.Calls.Adding.{fitted, text_added}
use Rattle.scr_windows.proofs.FittedLaws.{first_ends, first_fitted}
use Rattle.scr_windows.proofs.desks.Desk.add_first.Goals as goal

pub returns-clause-place : goal.returns-clause-place
returns-clause-place c =
    let is : c.args.text.now ≡ encode_utf8 c.in-Some.character ++ chars_rest c.next.new.self = sym c.chars.ensures.rest ∙ c.in-Some.ensures.steps.0 in
    subst (IsCharBoundary c.args.text.now) (sym c.len_utf8.ensures.value) (first_ends c.args.text.now (chars_rest c.next.new.self) c.in-Some.character c.utf8.text is)

pub returns-clause-added : goal.returns-clause-added
returns-clause-added c =
    let is : c.args.text.now ≡ encode_utf8 c.in-Some.character ++ chars_rest c.next.new.self = sym c.chars.ensures.rest ∙ c.in-Some.ensures.steps.0 in
    c.add_fitted.ensures.added ∙ ap (text_added c.args.self.now c.args.index) (first_fitted c.args.text.now (chars_rest c.next.new.self) c.in-Some.character c.utf8.text is)
    ∙ ap (λ n. text_added c.args.self.now c.args.index (flat_map fitted (chars (take n c.args.text.now)))) (sym c.len_utf8.ensures.value)
