use Rattle.std.proofs.Common.{arith}
use Rattle.std.proofs.lemmas.Grind.{common_steps}
use Rattle.scr_plan.proofs.painting.Painter.go.Goals as goal

pub returns-then-self : goal.returns-then-self
returns-then-self c = grind (arith, common_steps)
