use Rattle.scr_windows.specs.Code.Steps.{Changes}
use Rattle.scr_windows.proofs.ChangeLaws.{below_partly}
use Rattle.scr_windows.proofs.surfaces.Surface.fill_below.Given as goal

abbrev pub invariant-loop-below : goal.invariant-loop-below
invariant-loop-below l = Changes l.fn.self l.self l.area (below_partly l.row l.column l.below l.cell)
