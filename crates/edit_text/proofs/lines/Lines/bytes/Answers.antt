use Rattle.std.proofs.Common.{sym, ◌∙◌, ap, ◌++◌, ◌∷◌}
use Rattle.std.specs.List.{flat_map}
use Rattle.edit_text.specs.Lines.{bytes_of}
use Rattle.edit_text.proofs.ReadingLaws.{bytes_first}
use Rattle.edit_text.proofs.lines.Lines.bytes.Goals as goal

pub returns : goal.returns
returns c =
    c.in_ok-append_lines.ensures ∙ (λ i. (c.in_ok-bytes.ensures.items ∙ c.deref-2.ensures.value ∙ c.first.view_is) i ++ flat_map (λ line. 10 ∷ line) c.in-Some.rest.now) ∙ sym (bytes_first c.in-Some.first.now c.in-Some.rest.now)
    ∙ ap bytes_of (sym c.in-Some.ensures.cases.0 ∙ c.deref.ensures.value ∙ c.self.view_is)
