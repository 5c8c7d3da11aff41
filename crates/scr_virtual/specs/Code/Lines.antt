-- What the steps of a taking do to a virtual screen: words of private functions.
use Rattle.std.specs.Prelude.{ℕ, Bool, false, ◌+◌, ◌-◌, ◌≤◌, ◌||◌, List, Some, drop, length, slice_index_or, slice_set, take}
use Rattle.scr_cells.specs.CellViews.{CellView, blank_cell}
use Rattle.scr_cells.specs.Grids.{grid_at, grid_row, grid_with_run}
use Rattle.scr_windows.specs.declared.frames.WindowState.{WindowState}
use Rattle.scr_windows.specs.Lending.{LentView}
use Rattle.scr_virtual.specs.declared.parts.ShownPart.{ShownPart}
use Rattle.scr_virtual.specs.Ranges.{joined, joined_by}
use Rattle.scr_virtual.specs.Taking.{columns_unlike, part_copied, wish_of}
use Rattle.scr_virtual.specs.VirtualViews.{VirtualView, altered_at, range_at}

-- the part lies in the window, and on a screen of so many rows and columns where it is shown; and it has a column
pub record IsInside (rows columns : ℕ) (lent : LentView) (part : ShownPart) : Type 0 where
  pub some : 1 ≤ part.columns
  pub lines : part.row + part.rows ≤ lent.window.frame.area.rows
  pub columns_of : part.column + part.columns ≤ lent.window.frame.area.columns
  pub bottom : part.top + part.rows ≤ rows
  pub right : part.left + part.columns ≤ columns

abbrev pub IsShown : VirtualView → LentView → ShownPart → Type 0
IsShown virtual lent part = IsInside virtual.picture.rows virtual.picture.columns lent part

-- the cells of a line of the part
abbrev pub part_line : LentView → ShownPart → ℕ → List CellView
part_line lent part row = take part.columns (drop part.column (grid_row lent.lines (part.row + row)))

-- the lines that are copied of a window that is lent: all, or those that are touched
abbrev pub copied_lines : Bool → LentView → ℕ → Bool
copied_lines all lent line = all || slice_index_or lent.window.touched line false

-- the cell in a row and a column of a window that is lent
abbrev pub lent_at : LentView → ℕ → ℕ → CellView
lent_at lent r c = grid_at blank_cell lent.lines r c

-- the cell that a column of a row gets of cells that are copied from a column on
abbrev pub copied_cell : ℕ → List CellView → ℕ → CellView
copied_cell column cells c = slice_index_or cells (c - column) blank_cell

-- the columns of a row that get another cell of cells that are copied from a column on
abbrev pub line_unlike : ℕ → ℕ → List CellView → VirtualView → List ℕ
line_unlike row column cells virtual = columns_unlike (grid_at blank_cell virtual.picture.lines row) (copied_cell column cells) column (length cells)

-- cells copied to a row from a column on: its columns there have changed, and those that got another cell look otherwise
unfoldable pub line_copied : ℕ → ℕ → List CellView → VirtualView → VirtualView
line_copied row column cells virtual = record virtual {
  picture = record virtual.picture { lines = grid_with_run virtual.picture.lines row column cells };
  changed = slice_set virtual.changed row (joined (Some (column, column + (length cells - 1))) (range_at virtual row));
  altered = slice_set virtual.altered row (joined_by (line_unlike row column cells virtual) (altered_at virtual row));
}

-- lines of a part copied, and the cursor wished
abbrev pub shown : ShownPart → (ℕ → Bool) → (ℕ → ℕ → CellView) → WindowState → VirtualView → VirtualView
shown part lines cells state virtual =
    let copied : VirtualView = part_copied part lines cells virtual in
    record copied { picture = record copied.picture { wish = wish_of part state } }
