use Rattle.scr_windows.specs.Code.Steps.{Changes}
use Rattle.scr_windows.specs.Surfaces.Formulas.{column_put}
use Rattle.scr_windows.proofs.surfaces.Surface.fill_column.Given as goal

abbrev pub invariant-loop-row : goal.invariant-loop-row
invariant-loop-row l = Changes l.fn.self l.self l.area (column_put l.column l.first l.row l.cell)
