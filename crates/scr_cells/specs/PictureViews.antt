-- A picture: the cells that a screen is to show, the colours of their pairs, and where its cursor should be. X/Open
-- Curses Issue 7, 'Screens, Windows and Terminals' and 'Color'; curs_refresh(3X), 'virtual screen'.
use Rattle.std.specs.Prelude.{ℕ, ◌≡◌, ◌<◌, ◌≤◌, List, All, length, Option, None, IfSome}
use Rattle.scr_cells.specs.CellViews.{CellView, IsCell, blank_cell}
use Rattle.scr_cells.specs.Grids.{IsGrid, grid_of}
use Rattle.scr_cells.specs.PenViews.{IsColour, first_pairs}

-- A valid size: 1 to 500 rows of 1 to 500 columns.
pub record IsSize (rows columns : ℕ) : Type 0 where
  pub some_rows : 1 ≤ rows
  pub some_columns : 1 ≤ columns
  pub few_rows : rows ≤ 500
  pub few_columns : columns ≤ 500

-- A size; the cells in rows from the top; the cursor wish, a row and a column where the cursor should be, if anywhere;
-- and the foreground and background of each pair from 1 on; no colour means the terminal's default.
pub record PictureView : Type 0 where
  pub rows : ℕ
  pub columns : ℕ
  pub lines : List (List CellView)
  pub wish : Option (ℕ × ℕ)
  pub pairs : List (Option ℕ × Option ℕ)

-- The place is inside.
abbrev pub IsPlace : ℕ → ℕ → ℕ × ℕ → Type 0
IsPlace rows columns place = (place.0 < rows) × (place.1 < columns)

-- The colours of a pair.
abbrev pub AreColours : Option ℕ × Option ℕ → Type 0
AreColours pair = IfSome pair.0 IsColour × IfSome pair.1 IsColour

-- A valid picture: a cell in every place, the cursor wish inside, if there is one, and colours for pairs 1 to 63.
pub record IsPicture (picture : PictureView) : Type 0 where
  pub size : IsSize picture.rows picture.columns
  pub grid : IsGrid picture.rows picture.columns picture.lines
  pub cells : All (All IsCell) picture.lines
  pub wish : IfSome picture.wish (IsPlace picture.rows picture.columns)
  pub all_pairs : length picture.pairs ≡ 63
  pub colours : All AreColours picture.pairs

-- Blanks everywhere, no cursor wish, and the pairs as they are at first.
abbrev pub blank_picture : ℕ → ℕ → PictureView
blank_picture rows columns = record { rows = rows; columns = columns; lines = grid_of rows columns (λ _ _. blank_cell); wish = None; pairs = first_pairs }
