-- What the calls that draw a border do. X/Open Curses Issue 7, border() and border_set().
use Rattle.std.specs.Prelude.{ℕ, List, Result, Ok, Err, slice_index_or, if◌then◌else◌}
use Rattle.std.specs.List.{list_all}
use Rattle.scr_cells.specs.CellViews.{CellView}
use Rattle.scr_cells.specs.Characters.{is_ascii, is_character}
use Rattle.scr_windows.specs.declared.surfaces.borders.Border.{Border}
use Rattle.scr_windows.specs.Surfaces.Formulas.{bordered}
use Rattle.scr_windows.specs.declared.faults.WinFault.{WinFault}
use Rattle.scr_windows.specs.declared.faults.WinFault.TheVariants.{NotAscii, NotOneColumn}
use Rattle.scr_windows.specs.declared.frames.WindowState.{WindowState}
use Rattle.scr_windows.specs.DeskViews.{WindowView, DeskView, window_at, no_attributes}
use Rattle.scr_windows.specs.Changes.{index_of, on_window, write}
use Rattle.scr_windows.specs.Calls.Adding.{written_form}

-- The cell that is written for character k of a border, without attributes of its own.
abbrev pub edge_cell : List ℕ → WindowState → ℕ → CellView
edge_cell codes state k = written_form (slice_index_or codes k 0) no_attributes state

-- The characters in order: left, right, top and bottom edge, then the corners top left, top right, bottom left and
-- bottom right.
abbrev pub border_cells : List ℕ → WindowState → Border
border_cells codes state =
    record {
      left = edge_cell codes state 0;
      right = edge_cell codes state 1;
      top = edge_cell codes state 2;
      bottom = edge_cell codes state 3;
      top_left = edge_cell codes state 4;
      top_right = edge_cell codes state 5;
      bottom_left = edge_cell codes state 6;
      bottom_right = edge_cell codes state 7;
    }

-- A border is drawn. All lines are touched, since the left and right edges have a place in each.
unfoldable pub border_drawn : DeskView → ℕ → List ℕ → DeskView
border_drawn desk i codes =
    let w : WindowView = window_at desk i in
    write desk i 0 w.frame.area.rows (bordered w.frame.area.rows w.frame.area.columns (border_cells codes w.state))

-- border(), with characters 32 to 126.
unfoldable pub border_call : DeskView → ℕ → List ℕ → DeskView × Result (Unit {0}) WinFault
border_call desk win bytes = on_window desk (index_of desk win) (λ i.
    if list_all is_ascii bytes then (border_drawn desk i bytes, Ok tt) else (desk, Err NotAscii))

-- border_set(), with any characters.
unfoldable pub border_of_call : DeskView → ℕ → List ℕ → DeskView × Result (Unit {0}) WinFault
border_of_call desk win codes = on_window desk (index_of desk win) (λ i.
    if list_all is_character codes then (border_drawn desk i codes, Ok tt) else (desk, Err NotOneColumn))
