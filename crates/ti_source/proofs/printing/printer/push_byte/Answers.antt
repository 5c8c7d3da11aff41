use Rattle.std.proofs.Common.{rules}
use Rattle.ti_source.proofs.printing.printer.push_byte.Goals as goal

pub returns-in_default : goal.returns-in_default
returns-in_default c = search rules
