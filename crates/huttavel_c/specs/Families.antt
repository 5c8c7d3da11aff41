-- The calls that one function of the library makes, by a number: the first is 0, and a greater number than the last is
-- the last.
use Rattle.std.specs.Prelude.{ℕ, ◌==◌, true, false, not, Result, if◌then◌else◌}
use Rattle.scr_virtual.specs.Taking.{take_window_call}
use Rattle.scr_windows.specs.Calls.Erasing.{clear_call, clear_to_bottom_call, erase_call}
use Rattle.scr_windows.specs.Calls.Making.{new_pad_call, new_window_call}
use Rattle.scr_windows.specs.Calls.Moving.{move_derived_call, move_window_call}
use Rattle.scr_windows.specs.Calls.Reading.{cursor_answer, origin_answer, size_answer}
use Rattle.scr_windows.specs.Calls.Removing.{delete_call}
use Rattle.scr_windows.specs.Calls.Settings.{attr_off_call, attr_on_call, attr_set_call, clear_ok_call, leave_ok_call, scroll_ok_call}
use Rattle.scr_windows.specs.Calls.Subwindows.{derive_call, sub_call, sub_pad_call}
use Rattle.scr_windows.specs.Calls.Syncing.{sync_down_call, sync_up_call}
use Rattle.scr_windows.specs.Calls.Touching.{touch_lines_call}
use Rattle.scr_windows.specs.DeskViews.{DeskView}
use Rattle.scr_windows.specs.declared.faults.Win.{Win}
use Rattle.scr_windows.specs.declared.faults.WinFault.{WinFault}
use Rattle.curses.specs.Refreshing.{lines_disturbed, redraw_lines_call, redraw_window_call, window_disturbed}
use Rattle.curses.specs.ScreenStates.{ScreenState}
use Rattle.huttavel_c.specs.Asking.{on_both, on_terminal, on_windows}
use Rattle.huttavel_c.specs.Replies.{pair_reply}
use Rattle.huttavel_c.specs.declared.answers.Reply.{Reply}

-- What a call leaves of a screen, and its answer.
abbrev pub Called : Type 0
Called = ScreenState × Result (Unit {0}) WinFault

-- A call on a window.
unfoldable pub window_call : ℕ → ℕ → ScreenState → Called
window_call kind window screen =
    if kind == 0 then on_windows screen (delete_call screen.desk window) else
    if kind == 1 then on_windows screen (clear_to_bottom_call screen.desk window) else
    if kind == 2 then on_windows screen (erase_call screen.desk window) else
    if kind == 3 then on_windows screen (clear_call screen.desk window) else
    if kind == 4 then on_windows screen (sync_up_call screen.desk window) else
    if kind == 5 then on_windows screen (sync_down_call screen.desk window) else
    if kind == 6 then on_both screen (take_window_call screen.virtual screen.desk window) else
    on_terminal screen (redraw_window_call screen.virtual screen.desk window) (window_disturbed screen.memory screen.desk window)

-- A call on a window with two numbers.
unfoldable pub number_call : ℕ → ℕ → ℕ → ℕ → ScreenState → Called
number_call kind window first second screen =
    if kind == 0 then on_windows screen (move_window_call screen.desk window first second) else
    if kind == 1 then on_windows screen (move_derived_call screen.desk window first second) else
    if kind == 2 then on_windows screen (touch_lines_call screen.desk window first second true) else
    if kind == 3 then on_windows screen (touch_lines_call screen.desk window first second false) else
    on_terminal screen (redraw_lines_call screen.virtual screen.desk window first second) (lines_disturbed screen.memory screen.desk window first second)

-- A setting of a window: bits are on if they are not 0, or are attributes.
unfoldable pub setting_call : ℕ → ℕ → ℕ → ScreenState → Called
setting_call kind window bits screen =
    if kind == 0 then on_windows screen (scroll_ok_call screen.desk window (not (bits == 0))) else
    if kind == 1 then on_windows screen (clear_ok_call screen.desk window (not (bits == 0))) else
    if kind == 2 then on_windows screen (leave_ok_call screen.desk window (not (bits == 0))) else
    if kind == 3 then on_windows screen (attr_on_call screen.desk window (record { 0 = bits })) else
    if kind == 4 then on_windows screen (attr_off_call screen.desk window (record { 0 = bits })) else
    on_windows screen (attr_set_call screen.desk window (record { 0 = bits }))

-- A call that makes a window; its rows and columns, and where it is.
unfoldable pub making_call : ℕ → ℕ → ℕ → ℕ → ℕ → ℕ → ScreenState → ScreenState × Result Win WinFault
making_call kind window rows columns row column screen =
    if kind == 0 then on_windows screen (new_window_call screen.desk rows columns row column) else
    if kind == 1 then on_windows screen (new_pad_call screen.desk rows columns) else
    if kind == 2 then on_windows screen (derive_call screen.desk window rows columns row column) else
    if kind == 3 then on_windows screen (sub_call screen.desk window rows columns row column) else
    on_windows screen (sub_pad_call screen.desk window rows columns row column)

-- What is asked of a window.
unfoldable pub window_reply : ℕ → ℕ → DeskView → Reply
window_reply kind window desk =
    if kind == 0 then pair_reply (size_answer desk window) else
    if kind == 1 then pair_reply (cursor_answer desk window) else
    pair_reply (origin_answer desk window)
