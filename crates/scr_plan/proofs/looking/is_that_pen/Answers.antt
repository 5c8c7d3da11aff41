use Rattle.std.proofs.Common.{rules}
use Rattle.scr_plan.proofs.looking.is_that_pen.Goals as goal

pub returns-in-Some : goal.returns-in-Some
returns-in-Some c = search rules
