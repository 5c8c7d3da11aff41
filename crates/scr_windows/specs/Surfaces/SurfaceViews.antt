-- What windows are drawn on. X/Open Curses Issue 7, 'Screens, Windows and Terminals'.
use Rattle.std.specs.Prelude.{ℕ, Bool, ◌≡◌, ◌+◌, ◌-◌, ◌*◌, ◌≤◌, List, ltb, leb, ◌&&◌, if◌then◌else◌}
use Rattle.scr_cells.specs.CellViews.{CellView, blank_cell}
use Rattle.scr_cells.specs.Grids.{grid_at, grid_filled, grid_of}
use Rattle.scr_windows.specs.declared.surfaces.areas.Area.{Area}

-- A size, and the lines from the top, each as its cells from the left.
pub record SurfaceView : Type 0 where
  pub rows : ℕ
  pub columns : ℕ
  pub lines : List (List CellView)

-- From one place to 1,000,000.
pub record IsSurfaceSize (rows columns : ℕ) : Type 0 where
  pub some_rows : 1 ≤ rows
  pub some_columns : 1 ≤ columns
  pub few_rows : rows ≤ 1000000
  pub few_columns : columns ≤ 1000000
  pub few_places : rows * columns ≤ 1000000

-- The cell of a surface in row r and column c.
unfoldable pub cell_of : SurfaceView → ℕ → ℕ → CellView
cell_of surface r c = grid_at blank_cell surface.lines r c

-- A valid surface: a valid size, and exactly one cell for each row and column.
pub record IsSurface (surface : SurfaceView) : Type 0 where
  pub size : IsSurfaceSize surface.rows surface.columns
  pub whole : surface.lines ≡ grid_of surface.rows surface.columns (cell_of surface)

-- The area has a place and lies on the surface.
pub record IsPart (surface : SurfaceView) (area : Area) : Type 0 where
  pub some_rows : 1 ≤ area.rows
  pub some_columns : 1 ≤ area.columns
  pub below : area.top + area.rows ≤ surface.rows
  pub right : area.left + area.columns ≤ surface.columns

-- The place of the surface is in the area.
abbrev pub is_inside : Area → ℕ → ℕ → Bool
is_inside area r c = leb area.top r && ltb r (area.top + area.rows) && leb area.left c && ltb c (area.left + area.columns)

-- The cell in row r and column c of an area.
abbrev pub inside_at : SurfaceView → Area → ℕ → ℕ → CellView
inside_at surface area r c = cell_of surface (area.top + r) (area.left + c)

-- The surface with an area filled by a formula over its rows and columns; every other place stays.
unfoldable pub filled : SurfaceView → Area → (ℕ → ℕ → CellView) → SurfaceView
filled surface area f =
    record surface { lines = grid_filled surface.rows surface.columns (is_inside area) (λ r c. f (r - area.top) (c - area.left)) (cell_of surface) }

-- The cells of an area in a surface of another size of its own: what fits stays, and the rest gets this cell.
unfoldable pub resized_surface : SurfaceView → Area → ℕ → ℕ → CellView → SurfaceView
resized_surface surface area rows columns cell =
    record { rows = rows; columns = columns; lines = grid_of rows columns (λ r c. if ltb r area.rows && ltb c area.columns then inside_at surface area r c else cell) }

-- A surface with blanks without attributes everywhere.
abbrev pub blank_surface : ℕ → ℕ → SurfaceView
blank_surface rows columns = record { rows = rows; columns = columns; lines = grid_of rows columns (λ _ _. blank_cell) }
