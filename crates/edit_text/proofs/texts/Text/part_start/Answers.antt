use Rattle.std.proofs.Common.{◌∙◌, ap, subst}
use Rattle.edit_text.specs.Lines.{line_at}
use Rattle.edit_text.specs.Parts.{IsBetween}
use Rattle.edit_text.proofs.texts.Text.part_start.Goals as goal

pub returns-clause-column : goal.returns-clause-column
returns-clause-column c = subst (λ line. IsBetween line c.args.place.column c.part_start-column.result) (c.bytes_of.ensures ∙ ap (λ text. line_at text.lines c.args.place.line) c.self.view_is) c.part_start-column.ensures
