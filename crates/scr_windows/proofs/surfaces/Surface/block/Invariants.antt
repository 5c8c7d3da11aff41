use Rattle.std.proofs.Common.{◌≡◌}
use Rattle.scr_cells.specs.Grids.{grid_of}
use Rattle.scr_windows.specs.Surfaces.SurfaceViews.{inside_at}
use Rattle.scr_windows.proofs.surfaces.Surface.block.Given as goal

-- the rows up to one are read
abbrev pub invariant-loop-row : goal.invariant-loop-row
invariant-loop-row l = record {
  rows : l.block.rows ≡ l.row;
  columns : l.block.columns ≡ l.area.columns;
  lines : l.block.lines ≡ grid_of l.row l.area.columns (inside_at l.fn.self l.area);
}
