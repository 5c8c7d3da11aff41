use Rattle.std.proofs.Common.{◌-◌}
use Rattle.scr_windows.specs.Code.Steps.{Changes}
use Rattle.scr_windows.proofs.ChangeLaws.{rows_partly_down}
use Rattle.scr_windows.proofs.surfaces.Surface.move_down.Given as goal

abbrev pub invariant-loop-done : goal.invariant-loop-done
invariant-loop-done l = Changes l.fn.self l.self l.fn.area (rows_partly_down l.first (l.end - l.done) l.end l.n l.cell)

abbrev pub invariant-loop-put : goal.invariant-loop-put
invariant-loop-put l = Changes l.fn.self l.self l.fn.area (rows_partly_down l.first (l.end - l.put) l.end l.n l.cell)
