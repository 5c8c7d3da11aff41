-- What the steps of a drawing do to a surface: words of private functions.
use Rattle.std.specs.Prelude.{ℕ, ◌≡◌, ◌≢◌, ◌+◌, ◌<◌, ◌≤◌, ◌==◌, ltb, false, if◌then◌else◌}
use Rattle.scr_cells.specs.CellViews.{CellView}
use Rattle.scr_windows.specs.declared.surfaces.areas.Area.{Area}
use Rattle.scr_windows.specs.Surfaces.SurfaceViews.{SurfaceView, IsSurface, cell_of, inside_at, is_inside}

-- in one row the places from one column up to another get these cells, and every other place stays
pub record RunIs (old new : SurfaceView) (row from end : ℕ) (value : ℕ → CellView) : Type 0 where
  pub same_rows : new.rows ≡ old.rows
  pub same_columns : new.columns ≡ old.columns
  pub surface : IsSurface new
  pub inside : (c : ℕ) → from ≤ c → c < end → cell_of new row c ≡ value c
  pub before : (c : ℕ) → c < from → cell_of new row c ≡ cell_of old row c
  pub after : (c : ℕ) → end ≤ c → c < old.columns → cell_of new row c ≡ cell_of old row c
  pub rows : (r c : ℕ) → r ≢ row → r < old.rows → c < old.columns → cell_of new r c ≡ cell_of old r c

-- the places of an area get what a formula makes of the cells of the area before, and every other place stays
pub record Changes (old new : SurfaceView) (area : Area) (f : (ℕ → ℕ → CellView) → ℕ → ℕ → CellView) : Type 0 where
  pub same_rows : new.rows ≡ old.rows
  pub same_columns : new.columns ≡ old.columns
  pub surface : IsSurface new
  pub inside : (r c : ℕ) → r < area.rows → c < area.columns → cell_of new (area.top + r) (area.left + c) ≡ f (inside_at old area) r c
  pub outside : (r c : ℕ) → r < old.rows → c < old.columns → is_inside area r c ≡ false → cell_of new r c ≡ cell_of old r c

-- the first and the last column of the rows up to one are put
abbrev pub sides_put : ℕ → ℕ → CellView → CellView → (ℕ → ℕ → CellView) → ℕ → ℕ → CellView
sides_put columns row left right at r c =
    if ltb r row then (if c + 1 == columns then right else if c == 0 then left else at r c) else at r c
