-- Laws of surfaces: what follows from the definitions, as a check on them.
use Rattle.std.specs.Prelude.{ℕ, ◌≡◌, ◌-◌, ◌<◌, ◌&&◌, ltb, if◌then◌else◌}
use Rattle.scr_cells.specs.CellViews.{CellView, blank_cell}
use Rattle.scr_windows.specs.declared.surfaces.areas.Area.{Area}
use Rattle.scr_windows.specs.Surfaces.SurfaceViews.{SurfaceView, IsSurface, IsSurfaceSize, blank_surface, cell_of, filled, inside_at, is_inside, resized_surface}

-- What follows from the definitions of surfaces.
pub record SurfaceLaws : Type 0 where
  -- Surfaces of one size with the same cells are the same.
  pub same : (s t : SurfaceView) → IsSurface s → IsSurface t → s.rows ≡ t.rows → s.columns ≡ t.columns → ((r c : ℕ) → r < s.rows → c < s.columns → cell_of s r c ≡ cell_of t r c) → s ≡ t
  -- Filling an area keeps a surface's size.
  pub filled_rows : (s : SurfaceView) (area : Area) (f : ℕ → ℕ → CellView) → (filled s area f).rows ≡ s.rows
  pub filled_columns : (s : SurfaceView) (area : Area) (f : ℕ → ℕ → CellView) → (filled s area f).columns ≡ s.columns
  pub filled_surface : (s : SurfaceView) (area : Area) (f : ℕ → ℕ → CellView) → IsSurface s → IsSurface (filled s area f)
  -- It puts the formula's cells into the area, and leaves the others.
  pub filled_at : (s : SurfaceView) (area : Area) (f : ℕ → ℕ → CellView) (r c : ℕ) → r < s.rows → c < s.columns
      → cell_of (filled s area f) r c ≡ (if is_inside area r c then f (r - area.top) (c - area.left) else cell_of s r c)
  -- Formulas that agree in the area fill it alike.
  pub filled_same : (s : SurfaceView) (area : Area) (f g : ℕ → ℕ → CellView) → ((r c : ℕ) → r < area.rows → c < area.columns → f r c ≡ g r c) → filled s area f ≡ filled s area g
  -- A blank surface is a surface, and is blank everywhere.
  pub blank : (rows columns : ℕ) → IsSurfaceSize rows columns → IsSurface (blank_surface rows columns)
  pub blank_at : (rows columns r c : ℕ) → r < rows → c < columns → cell_of (blank_surface rows columns) r c ≡ blank_cell
  -- A surface of another size is a surface, and has the cells that fit.
  pub resized : (s : SurfaceView) (area : Area) (rows columns : ℕ) (cell : CellView) → IsSurfaceSize rows columns → IsSurface (resized_surface s area rows columns cell)
  pub resized_at : (s : SurfaceView) (area : Area) (rows columns : ℕ) (cell : CellView) (r c : ℕ) → r < rows → c < columns
      → cell_of (resized_surface s area rows columns cell) r c ≡ (if ltb r area.rows && ltb c area.columns then inside_at s area r c else cell)
