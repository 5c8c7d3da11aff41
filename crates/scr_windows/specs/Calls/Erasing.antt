-- What the calls that erase do. X/Open Curses Issue 7, clrtoeol(), clrtobot(), erase(), clear().
use Rattle.std.specs.Prelude.{ℕ, true, Result, Ok, ◌+◌}
use Rattle.scr_windows.specs.declared.faults.WinFault.{WinFault}
use Rattle.scr_windows.specs.DeskViews.{WindowView, DeskView, window_at}
use Rattle.scr_windows.specs.Surfaces.Formulas.{run_put, rows_put, below_put}
use Rattle.scr_windows.specs.Changes.{index_of, on_window, write}
use Rattle.scr_windows.specs.Calls.Settings.{with_state, cursor_at}

-- The places of the cursor's line from the cursor up to, but not including, column `end` become background.
abbrev pub erased_up_to : DeskView → ℕ → ℕ → DeskView
erased_up_to desk i end =
    let w : WindowView = window_at desk i in
    write desk i w.state.cursor.0 (w.state.cursor.0 + 1) (run_put w.state.cursor.0 w.state.cursor.1 end w.state.background)

-- clrtoeol(): the places from the cursor to the end of its line become background.
unfoldable pub clear_to_eol_call : DeskView → ℕ → DeskView × Result (Unit {0}) WinFault
clear_to_eol_call desk win = on_window desk (index_of desk win) (λ i.
    (erased_up_to desk i (window_at desk i).frame.area.columns, Ok tt))

-- clrtobot(): those places and all lines below become background.
unfoldable pub clear_to_bottom_call : DeskView → ℕ → DeskView × Result (Unit {0}) WinFault
clear_to_bottom_call desk win = on_window desk (index_of desk win) (λ i.
    let w : WindowView = window_at desk i in
    (write desk i w.state.cursor.0 w.frame.area.rows (below_put w.state.cursor.0 w.state.cursor.1 w.state.background), Ok tt))

-- The whole window becomes background, and the cursor goes to the first place.
abbrev pub erased : DeskView → ℕ → WindowView → DeskView
erased desk i w = with_state (write desk i 0 w.frame.area.rows (rows_put 0 w.frame.area.rows w.state.background)) i (cursor_at (0, 0) w.state)

-- erase().
unfoldable pub erase_call : DeskView → ℕ → DeskView × Result (Unit {0}) WinFault
erase_call desk win = on_window desk (index_of desk win) (λ i. (erased desk i (window_at desk i), Ok tt))

-- clear(): as erase(), and the next update repaints the whole screen.
unfoldable pub clear_call : DeskView → ℕ → DeskView × Result (Unit {0}) WinFault
clear_call desk win = on_window desk (index_of desk win) (λ i.
    let w : WindowView = window_at desk i in
    (with_state (write desk i 0 w.frame.area.rows (rows_put 0 w.frame.area.rows w.state.background)) i (record (cursor_at (0, 0) w.state) { clear_ok = true }), Ok tt))
