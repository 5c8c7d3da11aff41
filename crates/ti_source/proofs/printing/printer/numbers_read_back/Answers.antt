use Rattle.std.proofs.Common.{arith}
use Rattle.ti_source.proofs.NumbersBackLaws.{number-decimal}
use Rattle.ti_source.proofs.printing.printer.numbers_read_back.Goals as goal

pub returns : goal.returns
returns c = λ n small. number-decimal n (omega arith)
