use Rattle.std.proofs.Common.{rules}
use Rattle.scr_terminal.proofs.steps.next_pen.Goals as goal

pub returns-in-Reset : goal.returns-in-Reset
returns-in-Reset c = search rules
