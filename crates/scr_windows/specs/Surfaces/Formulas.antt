-- What drawings put into an area: for each row and column, a formula over the cells before. X/Open Curses Issue 7, the
-- pages named.
use Rattle.std.specs.Prelude.{Bool, ℕ, ◌+◌, ◌-◌, ltb, leb, ◌==◌, ◌&&◌, ◌||◌, if◌then◌else◌}
use Rattle.scr_cells.specs.CellViews.{CellView, blank_cell, exchanged}
use Rattle.scr_cells.specs.Grids.{GridView, grid_at}
use Rattle.scr_windows.specs.declared.surfaces.areas.Area.{Area}
use Rattle.scr_windows.specs.declared.surfaces.borders.Border.{Border}
use Rattle.scr_windows.specs.Surfaces.SurfaceViews.{is_inside}

-- The places of one row from column `from` up to, but not including, `end` get this cell.
abbrev pub run_put : ℕ → ℕ → ℕ → CellView → (ℕ → ℕ → CellView) → ℕ → ℕ → CellView
run_put row from end cell at r c = if r == row && leb from c && ltb c end then cell else at r c

-- The rows from `first` up to, but not including, `end` get this cell everywhere.
abbrev pub rows_put : ℕ → ℕ → CellView → (ℕ → ℕ → CellView) → ℕ → ℕ → CellView
rows_put first end cell at r c = if leb first r && ltb r end then cell else at r c

-- insch(): the places of row y from column x on move right by one, and the cell takes the place.
abbrev pub row_opened : ℕ → ℕ → CellView → (ℕ → ℕ → CellView) → ℕ → ℕ → CellView
row_opened y x cell at r c = if r == y && leb x c then (if c == x then cell else at r (c - 1)) else at r c

-- delch(): the places of row y after column x move left by one, and the cell takes the last place.
abbrev pub row_closed : ℕ → ℕ → ℕ → CellView → (ℕ → ℕ → CellView) → ℕ → ℕ → CellView
row_closed columns y x cell at r c = if r == y && leb x c then (if ltb (c + 1) columns then at r (c + 1) else cell) else at r c

-- clrtobot(): the places from (y, x) to the end of the row, and all rows below, get this cell.
abbrev pub below_put : ℕ → ℕ → CellView → (ℕ → ℕ → CellView) → ℕ → ℕ → CellView
below_put y x cell at r c = if (r == y && leb x c) || ltb y r then cell else at r c

-- vline(): the places of one column from row `first` up to, but not including, `end` get this cell.
abbrev pub column_put : ℕ → ℕ → ℕ → CellView → (ℕ → ℕ → CellView) → ℕ → ℕ → CellView
column_put column first end cell at r c = if c == column && leb first r && ltb r end then cell else at r c

-- bkgd(): the background is replaced in every place.
abbrev pub all_exchanged : CellView → CellView → (ℕ → ℕ → CellView) → ℕ → ℕ → CellView
all_exchanged old new at r c = exchanged old new (at r c)

-- border(): the edges and corners get the border's cells, other places stay. Where several cells fall on one place, as
-- at the corners or in an area of one row or column, the one that comes later in the border counts.
abbrev pub bordered : ℕ → ℕ → Border → (ℕ → ℕ → CellView) → ℕ → ℕ → CellView
bordered rows columns border at r c =
    if r + 1 == rows && c + 1 == columns then border.bottom_right
    else if r + 1 == rows && c == 0 then border.bottom_left
    else if r == 0 && c + 1 == columns then border.top_right
    else if r == 0 && c == 0 then border.top_left
    else if r + 1 == rows then border.bottom
    else if r == 0 then border.top
    else if c + 1 == columns then border.right
    else if c == 0 then border.left
    else at r c

-- overlay(): a cell replaces another, except that a blank, whatever its attributes, leaves it.
abbrev pub over : CellView → CellView → CellView
over cell under = if cell.character == 32 then under else cell

-- copywin(): a cell laid over another; with `overlay`, a blank leaves it.
abbrev pub laid : Bool → CellView → CellView → CellView
laid overlay cell under = if overlay then over cell under else cell

-- A block of cells laid over a part of an area; every other place stays.
abbrev pub part_laid : Bool → Area → (ℕ → ℕ → CellView) → (ℕ → ℕ → CellView) → ℕ → ℕ → CellView
part_laid overlay part cells at r c = if is_inside part r c then laid overlay (cells (r - part.top) (c - part.left)) (at r c) else at r c

-- The part of an area that a block covers from (top, left) on.
abbrev pub part_of : ℕ → ℕ → GridView CellView → Area
part_of top left block = record { top = top; left = left; rows = block.rows; columns = block.columns }

-- The cell of a block in row r and column c.
abbrev pub block_at : GridView CellView → ℕ → ℕ → CellView
block_at block r c = grid_at blank_cell block.lines r c
