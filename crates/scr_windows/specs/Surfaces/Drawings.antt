-- What a drawing does: the cell of each place of the area after it, given the cells before.
use Rattle.std.specs.Prelude.{ℕ, ◌<◌, ◌≤◌}
use Rattle.scr_cells.specs.CellViews.{CellView}
use Rattle.scr_cells.specs.Grids.{rows_down, rows_up}
use Rattle.scr_windows.specs.declared.surfaces.drawings.Drawing.{Drawing}
use Rattle.scr_windows.specs.declared.surfaces.drawings.Drawing.TheVariants.{Run, Rows, Below, Column, Opened, Closed, Up, Down, Exchanged, Edges}
use Rattle.scr_windows.specs.Surfaces.Formulas.{all_exchanged, below_put, bordered, column_put, row_closed, row_opened, rows_put, run_put}

-- A drawing in an area of this size, place by place.
abbrev pub drawn : Drawing → ℕ → ℕ → (ℕ → ℕ → CellView) → ℕ → ℕ → CellView
drawn (Run row from end cell) rows columns at = run_put row from end cell at
drawn (Rows first end cell) rows columns at = rows_put first end cell at
drawn (Below row column cell) rows columns at = below_put row column cell at
drawn (Column column first end cell) rows columns at = column_put column first end cell at
drawn (Opened row column cell) rows columns at = row_opened row column cell at
drawn (Closed row column cell) rows columns at = row_closed columns row column cell at
drawn (Up first end count cell) rows columns at = rows_up first end count cell at
drawn (Down first end count cell) rows columns at = rows_down first end count cell at
drawn (Exchanged old new) rows columns at = all_exchanged old new at
drawn (Edges border) rows columns at = bordered rows columns border at

-- The places that the drawing names lie in an area of this size.
abbrev pub IsFitting : Drawing → ℕ → ℕ → Type 0
IsFitting (Run row from end cell) rows columns = (row < rows) × (from ≤ end) × (end ≤ columns)
IsFitting (Rows first end cell) rows columns = (first ≤ end) × (end ≤ rows)
IsFitting (Below row column cell) rows columns = (row < rows) × (column < columns)
IsFitting (Column column first end cell) rows columns = (column < columns) × (first ≤ end) × (end ≤ rows)
IsFitting (Opened row column cell) rows columns = (row < rows) × (column < columns)
IsFitting (Closed row column cell) rows columns = (row < rows) × (column < columns)
IsFitting (Up first end count cell) rows columns = (first ≤ end) × (end ≤ rows)
IsFitting (Down first end count cell) rows columns = (first ≤ end) × (end ≤ rows)
IsFitting (Exchanged old new) rows columns = Unit {0}
IsFitting (Edges border) rows columns = Unit {0}
