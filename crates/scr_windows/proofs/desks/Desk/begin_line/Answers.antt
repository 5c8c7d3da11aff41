use Rattle.std.proofs.Common.{rules}
use Rattle.scr_windows.specs.Calls.Adding.{line_begun}
use Rattle.scr_windows.proofs.desks.Desk.begin_line.Goals as goal

pub returns-then-not-canvas-clause-added : goal.returns-then-not-canvas-clause-added
unfolding line_begun
returns-then-not-canvas-clause-added c = search rules
