use Rattle.std.proofs.Common.{arith}
use Rattle.std.proofs.lemmas.Grind.{common_steps}
use Rattle.ti_binary.proofs.widths.Width.number.Goals as goal

pub returns-in-Wide : goal.returns-in-Wide
returns-in-Wide c = grind (arith, common_steps)
