use Rattle.ti_source.proofs.EscapesBackLaws.{decoded-printed_text}
use Rattle.ti_source.proofs.printing.printer.texts_read_back.Goals as goal

pub returns : goal.returns
returns c = decoded-printed_text
