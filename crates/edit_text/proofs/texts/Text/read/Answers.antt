use Rattle.std.proofs.Common.{◌∙◌, sym, ap, subst}
use Rattle.std.proofs.lemmas.List.Splits.{join_with_byte-slice_split}
use Rattle.edit_text.specs.Lines.{AreLines, bytes_of}
use Rattle.edit_text.proofs.KeptLaws.{lines_of_split}
use Rattle.edit_text.proofs.texts.Text.read.Goals as goal

pub of-requires : goal.of-requires
of-requires c = subst AreLines (sym c.in_ok-lines.ensures) (lines_of_split c.args.bytes.now)

pub returns-clause-bytes : goal.returns-clause-bytes
returns-clause-bytes c = ap (λ text. bytes_of text.lines) c.of.ensures ∙ ap bytes_of c.in_ok-lines.ensures ∙ join_with_byte-slice_split 10 c.args.bytes.now
