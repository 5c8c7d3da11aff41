-- A window lent for reading. X/Open Curses Issue 7, 'Screens, Windows and Terminals'.
use Rattle.std.specs.Prelude.{List, map, length, ◌≡◌}
use Rattle.std.specs.List.{range_with_len}
use Rattle.scr_cells.specs.CellViews.{CellView}
use Rattle.scr_windows.specs.declared.surfaces.areas.Area.{Area}
use Rattle.scr_windows.specs.Surfaces.SurfaceViews.{SurfaceView, inside_at}
use Rattle.scr_windows.specs.DeskViews.{WindowView, IsWindow}

-- The window, and its lines from the top, each as its cells from the left.
pub record LentView : Type 0 where
  pub window : WindowView
  pub lines : List (List CellView)

-- The lines of an area of a surface.
abbrev pub lines_in : SurfaceView → Area → List (List CellView)
lines_in surface area = map (λ r. map (inside_at surface area r) (range_with_len 0 area.columns)) (range_with_len 0 area.rows)

-- A valid lent window: at least one place, cursor and region inside, a mark for each line, and a list of cells for each
-- line.
pub record IsLent (lent : LentView) : Type 0 where
  pub window : IsWindow lent.window
  pub rows : length lent.lines ≡ lent.window.frame.area.rows
