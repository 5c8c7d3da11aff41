use Rattle.std.proofs.Common.{◌+◌, ◌∙◌, ap, refl, subst, drop, take}
use Rattle.std.specs.List.{flat_map}
use Rattle.std.specs.Str.{IsCharBoundary, chars}
use Rattle.std.proofs.lemmas.Str.{IsCharBoundary-from_rest, IsCharBoundary-start}
use Rattle.scr_windows.specs.declared.faults.Added.{Added}
use Rattle.scr_windows.specs.Calls.Adding.{either_stayed, fitted, text_added}
use Rattle.scr_windows.proofs.AddedLaws.{added_part, text_done}
use Rattle.scr_windows.proofs.FittedLaws.{fitted_more, fitted_none}
use Rattle.scr_windows.proofs.desks.Desk.add_characters.Goals as goal

pub loop-at-init : goal.loop-at-init
loop-at-init c = record { place = IsCharBoundary-start c.args.text.now c.utf8.text; here = c.requires; desk = refl; answer = refl }

pub loop-at-preserved : goal.loop-at-preserved
loop-at-preserved c =
    let text = c.args.text.now in
    let at = c.loop-at.at in
    let count = c.add_part-count.result.0 in
    let rest = flat_map fitted (chars (drop (at + count) text)) in
    let next = subst (λ ys. IsCharBoundary ys count) c.range_from.ensures.value c.add_part-count.ensures.place in
    let part = c.add_part-count.ensures.added ∙ ap (λ ys. text_added c.loop-at.self c.args.index (flat_map fitted (chars (take count ys)))) c.range_from.ensures.value in
    let cut = fitted_more text at count c.utf8.text c.loop-at.invariant.place next in
    let more = added_part c.loop-at.self c.add_part-count.new.self c.args.self.now c.args.index c.loop-at.all c.add_part-count.result.1 (flat_map fitted (chars (take count (drop at text)))) rest (flat_map fitted (chars (drop at text))) (flat_map fitted (chars text))
    cut part c.loop-at.invariant.desk c.loop-at.invariant.answer in
    record {
      place = IsCharBoundary-from_rest text at count c.loop-at.invariant.place.0 next;
      here = c.add_part-count.ensures.there;
      desk = more.0;
      answer = ap (λ (all : Added). either_stayed all (text_added c.add_part-count.new.self c.args.index rest).1) c.either-all.ensures ∙ more.1;
    }

pub returns : goal.returns
returns c =
    text_done c.loop-at.self c.args.self.now c.args.index c.loop-at.all (flat_map fitted (chars (drop c.loop-at.at c.args.text.now))) (flat_map fitted (chars c.args.text.now))
    (fitted_none c.args.text.now c.loop-at.at c.loop-at-test.false) c.loop-at.invariant.desk c.loop-at.invariant.answer
