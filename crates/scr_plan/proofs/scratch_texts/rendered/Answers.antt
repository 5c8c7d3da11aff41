use Rattle.std.proofs.Common.{arith}
use Rattle.std.proofs.lemmas.Grind.{common_steps}
use Rattle.scr_plan.proofs.scratch_texts.rendered.Goals as goal

pub loop-op-preserved : goal.loop-op-preserved
loop-op-preserved c = grind (arith, common_steps)
