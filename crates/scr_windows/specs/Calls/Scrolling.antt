-- What the calls that shift cells within a line, or lines, do. X/Open Curses Issue 7, delch(), insdelln(), scrl().
use Rattle.std.specs.Prelude.{ℕ, ℤ, pos, negsuc, Result, Ok, Err, ◌+◌, ◌==◌, if◌then◌else◌}
use Rattle.scr_cells.specs.Grids.{rows_down, rows_up}
use Rattle.scr_windows.specs.declared.faults.WinFault.{WinFault}
use Rattle.scr_windows.specs.declared.faults.WinFault.TheVariants.{NoScroll}
use Rattle.scr_windows.specs.DeskViews.{WindowView, DeskView, window_at}
use Rattle.scr_windows.specs.Surfaces.Formulas.{row_closed}
use Rattle.scr_windows.specs.Changes.{index_of, on_window, write}

-- delch(): the cells of the cursor's line from the cursor on move left by one, and the last place becomes background.
unfoldable pub delete_byte_call : DeskView → ℕ → DeskView × Result (Unit {0}) WinFault
delete_byte_call desk win = on_window desk (index_of desk win) (λ i.
    let w : WindowView = window_at desk i in
    (write desk i w.state.cursor.0 (w.state.cursor.0 + 1) (row_closed w.frame.area.columns w.state.cursor.0 w.state.cursor.1 w.state.background), Ok tt))

-- The lines from the cursor's to the window's last move down by n, or up if n is negative; lines left free become
-- background.
abbrev pub lines_moved : DeskView → ℕ → WindowView → ℤ → DeskView
lines_moved desk i w (pos n) = if n == 0 then desk else write desk i w.state.cursor.0 w.frame.area.rows (rows_down w.state.cursor.0 w.frame.area.rows n w.state.background)
lines_moved desk i w (negsuc m) = write desk i w.state.cursor.0 w.frame.area.rows (rows_up w.state.cursor.0 w.frame.area.rows (m + 1) w.state.background)

-- insdelln().
unfoldable pub insert_delete_lines_call : DeskView → ℕ → ℤ → DeskView × Result (Unit {0}) WinFault
insert_delete_lines_call desk win n = on_window desk (index_of desk win) (λ i. (lines_moved desk i (window_at desk i) n, Ok tt))

-- The lines of the region move up by n, or down if n is negative; lines left free become background.
abbrev pub scrolled : DeskView → ℕ → WindowView → ℤ → DeskView
scrolled desk i w (pos n) = if n == 0 then desk else write desk i w.state.region.0 (w.state.region.1 + 1) (rows_up w.state.region.0 (w.state.region.1 + 1) n w.state.background)
scrolled desk i w (negsuc m) = write desk i w.state.region.0 (w.state.region.1 + 1) (rows_down w.state.region.0 (w.state.region.1 + 1) (m + 1) w.state.background)

-- scrl(): refused if the window may not scroll.
unfoldable pub scroll_call : DeskView → ℕ → ℤ → DeskView × Result (Unit {0}) WinFault
scroll_call desk win n = on_window desk (index_of desk win) (λ i.
    if (window_at desk i).state.scroll_ok then (scrolled desk i (window_at desk i) n, Ok tt) else (desk, Err NoScroll))
