use Rattle.std.proofs.Common.{arith}
use Rattle.std.proofs.lemmas.Grind.{common_steps}
use Rattle.ti_caps.proofs.entry.unnamed_options.Goals as goal

pub loop-position-preserved : goal.loop-position-preserved
loop-position-preserved g c = grind (arith, common_steps)
