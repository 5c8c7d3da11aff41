use Rattle.std.proofs.Common.{true, arith}
use Rattle.scr_windows.proofs.GridLaws.{mark_put, no_mark_put}
use Rattle.scr_windows.proofs.windows.touch_one.Goals as goal

pub returns-then-line-touched : goal.returns-then-line-touched
returns-then-line-touched c = mark_put c.args.line true c.args.touched.now (omega arith)

pub returns-else-line-touched : goal.returns-else-line-touched
returns-else-line-touched c = no_mark_put c.args.line true c.args.touched.now (omega arith)
