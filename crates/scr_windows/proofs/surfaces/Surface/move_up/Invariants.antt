use Rattle.std.proofs.Common.{◌-◌}
use Rattle.scr_windows.specs.Code.Steps.{Changes}
use Rattle.scr_windows.proofs.ChangeLaws.{rows_partly_up}
use Rattle.scr_windows.proofs.surfaces.Surface.move_up.Given as goal

abbrev pub invariant-loop-row : goal.invariant-loop-row
invariant-loop-row l = Changes l.fn.self l.self l.fn.area (rows_partly_up l.first (l.row - l.fn.area.top) l.end l.n l.cell)

abbrev pub invariant-loop-below : goal.invariant-loop-below
invariant-loop-below l = Changes l.fn.self l.self l.fn.area (rows_partly_up l.first (l.below - l.fn.area.top) l.end l.n l.cell)
