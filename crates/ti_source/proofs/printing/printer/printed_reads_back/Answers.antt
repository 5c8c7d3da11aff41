use Rattle.ti_source.proofs.PrintedBackLaws.{reads-back}
use Rattle.ti_source.proofs.printing.printer.printed_reads_back.Goals as goal

pub returns : goal.returns
returns c = reads-back c.names_stand_once.ensures.found
