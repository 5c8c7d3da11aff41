use Rattle.scr_windows.specs.Code.Steps.{Changes}
use Rattle.scr_windows.specs.Code.Steps.{sides_put}
use Rattle.scr_windows.proofs.surfaces.Surface.draw_sides.Given as goal

abbrev pub invariant-loop-row : goal.invariant-loop-row
invariant-loop-row l = Changes l.fn.self l.self l.area (sides_put l.area.columns l.row l.left l.right)
