use Rattle.std.proofs.Common.{rules}
use Rattle.scr_plan.proofs.painting.Painter.end.Goals as goal

pub returns-then-is_placed : goal.returns-then-is_placed
returns-then-is_placed c = search rules
