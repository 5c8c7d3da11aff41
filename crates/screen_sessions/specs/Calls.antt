-- Calls as values: what each does to the windows, and its answer. These are the calls of X/Open Curses Issue 7 that
-- `scr_windows` defines.
use Rattle.std.specs.Prelude.{Bool, true, false, Result, Ok, Err, ◌≡◌, ◌⊎◌}
use Rattle.std.specs.Str.{chars}
use Rattle.std.specs.String.{string_bytes}
use Rattle.scr_windows.specs.DeskViews.{DeskView}
use Rattle.scr_windows.specs.declared.faults.WinFault.{WinFault}
use Rattle.scr_windows.specs.declared.faults.WinFault.TheVariants.{NoMemory}
use Rattle.scr_windows.specs.Calls.Adding.{add_byte_call, add_character_call, add_text_call, add_str_call, insert_byte_call, insert_character_call, line_across_call, line_across_of_call, line_down_call, line_down_of_call}
use Rattle.scr_windows.specs.Calls.Borders.{border_call, border_of_call}
use Rattle.scr_windows.specs.Calls.Copying.{copy_call, overlay_call}
use Rattle.scr_windows.specs.Calls.Erasing.{clear_to_eol_call, clear_to_bottom_call, erase_call, clear_call}
use Rattle.scr_windows.specs.Calls.Making.{new_window_call, new_pad_call}
use Rattle.scr_windows.specs.Calls.Moving.{move_window_call, move_derived_call}
use Rattle.scr_windows.specs.Calls.Reading.{cell_at_answer, cursor_answer, size_answer, origin_answer, line_touched_answer, window_touched_answer}
use Rattle.scr_windows.specs.Calls.Removing.{delete_call}
use Rattle.scr_windows.specs.Calls.Resizing.{resize_window_call}
use Rattle.scr_windows.specs.Calls.Scrolling.{delete_byte_call, insert_delete_lines_call, scroll_call}
use Rattle.scr_windows.specs.Calls.Settings.{move_cursor_call, set_region_call, scroll_ok_call, clear_ok_call, leave_ok_call, attr_on_call, attr_off_call, attr_set_call, color_set_call, set_background_call, change_background_call}
use Rattle.scr_windows.specs.Calls.Subwindows.{derive_call, sub_call, sub_pad_call}
use Rattle.scr_windows.specs.Calls.Syncing.{sync_up_call, sync_down_call}
use Rattle.scr_windows.specs.Calls.Touching.{touch_all_call, touch_lines_call}
use Rattle.screen_sessions.specs.declared.answers.Answer.{Answer}
use Rattle.screen_sessions.specs.declared.answers.Answer.TheVariants as answers
use Rattle.screen_calls.specs.declared.calls.Call.{Call}
use Rattle.screen_calls.specs.declared.calls.Call.TheVariants.{NewWindow, NewPad, Derive, Sub, SubPad, ResizeWindow, Copy, Overlay, Overwrite, Delete, MoveWindow, MoveDerived, TouchWindow, Untouch, TouchLines, SyncUp, SyncDown, AddByte, AddText, InsertByte, LineAcross, LineDown, Border, AddCharacter, AddStr, InsertCharacter, LineAcrossOf, LineDownOf, BorderOf, ClearToEol, ClearToBottom, Erase, Clear, DeleteByte, InsertDeleteLines, Scroll, ChangeBackground, MoveCursor, SetRegion, ScrollOk, ClearOk, LeaveOk, AttrOn, AttrOff, AttrSet, ColorSet, SetBackground, CellAt, Cursor, Size, Origin, LineTouched, WindowTouched}
use Rattle.curses.specs.ScreenStates.{ScreenState}
use Rattle.curses.specs.Forwarding.{OnDesk}

-- The answer of a call: the value that it gives, or why it was refused.
abbrev pub answered : {A : Type 0} → (A → Answer) → Result A WinFault → Answer
answered give (Ok x) = give x
answered give (Err fault) = answers.Refused fault

-- The answer of a call that is not an update: what it gives, or why it was refused.
abbrev pub is_told : Answer → Bool
is_told (answers.Sent sent) = false
is_told (answers.Failed fault) = false
is_told answer = true

-- The windows after a call, and its answer.
abbrev pub told : {A : Type 0} → (A → Answer) → DeskView × Result A WinFault → DeskView × Answer
told give call = (call.0, answered give call.1)

-- The same for a call that gives no value.
abbrev pub done : DeskView × Result (Unit {0}) WinFault → DeskView × Answer
done call = told (λ _. answers.Nothing) call

-- Calls that only read. A call that neither this list nor one below names changes no window and answers nothing.
abbrev pub reading : DeskView → Call → DeskView × Answer
reading desk (CellAt win row column) = (desk, answered (λ cell. answers.Seen cell) (cell_at_answer desk win.0 row column))
reading desk (Cursor win) = (desk, answered (λ pair. answers.Pair pair.0 pair.1) (cursor_answer desk win.0))
reading desk (Size win) = (desk, answered (λ pair. answers.Pair pair.0 pair.1) (size_answer desk win.0))
reading desk (Origin win) = (desk, answered (λ pair. answers.Pair pair.0 pair.1) (origin_answer desk win.0))
reading desk (LineTouched win row) = (desk, answered (λ touched. answers.Touched touched) (line_touched_answer desk win.0 row))
reading desk (WindowTouched win) = (desk, answered (λ touched. answers.Touched touched) (window_touched_answer desk win.0))
reading desk call = (desk, answers.Nothing)

-- Calls that change settings of a window, but no cell.
abbrev pub setting : DeskView → Call → DeskView × Answer
setting desk (MoveCursor win row column) = done (move_cursor_call desk win.0 row column)
setting desk (SetRegion win top bottom) = done (set_region_call desk win.0 top bottom)
setting desk (ScrollOk win on) = done (scroll_ok_call desk win.0 on)
setting desk (ClearOk win on) = done (clear_ok_call desk win.0 on)
setting desk (LeaveOk win on) = done (leave_ok_call desk win.0 on)
setting desk (AttrOn win attrs) = done (attr_on_call desk win.0 attrs)
setting desk (AttrOff win attrs) = done (attr_off_call desk win.0 attrs)
setting desk (AttrSet win attrs) = done (attr_set_call desk win.0 attrs)
setting desk (ColorSet win pair) = done (color_set_call desk win.0 pair)
setting desk (SetBackground win cell) = done (set_background_call desk win.0 cell)
setting desk call = reading desk call

-- Calls that erase or move cells, or replace the background.
abbrev pub erasing : DeskView → Call → DeskView × Answer
erasing desk (ClearToEol win) = done (clear_to_eol_call desk win.0)
erasing desk (ClearToBottom win) = done (clear_to_bottom_call desk win.0)
erasing desk (Erase win) = done (erase_call desk win.0)
erasing desk (Clear win) = done (clear_call desk win.0)
erasing desk (DeleteByte win) = done (delete_byte_call desk win.0)
erasing desk (InsertDeleteLines win n) = done (insert_delete_lines_call desk win.0 n)
erasing desk (Scroll win n) = done (scroll_call desk win.0 n)
erasing desk (ChangeBackground win cell) = done (change_background_call desk win.0 cell)
erasing desk call = setting desk call

-- Calls that write characters.
abbrev pub drawing : DeskView → Call → DeskView × Answer
drawing desk (AddCharacter win character attrs) = told (λ all. answers.Added all) (add_character_call desk win.0 character attrs)
drawing desk (AddStr win text) = told (λ all. answers.Added all) (add_str_call desk win.0 (chars (string_bytes text)))
drawing desk (InsertCharacter win character attrs) = done (insert_character_call desk win.0 character attrs)
drawing desk (LineAcrossOf win character n) = done (line_across_of_call desk win.0 character n)
drawing desk (LineDownOf win character n) = done (line_down_of_call desk win.0 character n)
drawing desk (BorderOf win characters) = done (border_of_call desk win.0 characters)
drawing desk call = erasing desk call

-- Calls that write bytes of ASCII.
abbrev pub writing : DeskView → Call → DeskView × Answer
writing desk (AddByte win byte attrs) = told (λ all. answers.Added all) (add_byte_call desk win.0 byte attrs)
writing desk (AddText win text) = told (λ all. answers.Added all) (add_text_call desk win.0 text)
writing desk (InsertByte win byte attrs) = done (insert_byte_call desk win.0 byte attrs)
writing desk (LineAcross win byte n) = done (line_across_call desk win.0 byte n)
writing desk (LineDown win byte n) = done (line_down_call desk win.0 byte n)
writing desk (Border win bytes) = done (border_call desk win.0 bytes)
writing desk call = drawing desk call

-- Calls that delete or move a window, or that touch, untouch or synchronize lines.
abbrev pub placing : DeskView → Call → DeskView × Answer
placing desk (Delete win) = done (delete_call desk win.0)
placing desk (MoveWindow win row column) = done (move_window_call desk win.0 row column)
placing desk (MoveDerived win row column) = done (move_derived_call desk win.0 row column)
placing desk (TouchWindow win) = done (touch_all_call desk win.0 true)
placing desk (Untouch win) = done (touch_all_call desk win.0 false)
placing desk (TouchLines win first n changed) = done (touch_lines_call desk win.0 first n changed)
placing desk (SyncUp win) = done (sync_up_call desk win.0)
placing desk (SyncDown win) = done (sync_down_call desk win.0)
placing desk call = writing desk call

-- All calls on windows. Those listed here allocate: they make a window, give it another size or copy cells.
abbrev pub window_call : DeskView → Call → DeskView × Answer
window_call desk (NewWindow rows columns row column) = told (λ win. answers.Made win) (new_window_call desk rows columns row column)
window_call desk (NewPad rows columns) = told (λ win. answers.Made win) (new_pad_call desk rows columns)
window_call desk (Derive win rows columns row column) = told (λ win. answers.Made win) (derive_call desk win.0 rows columns row column)
window_call desk (Sub win rows columns row column) = told (λ win. answers.Made win) (sub_call desk win.0 rows columns row column)
window_call desk (SubPad win rows columns row column) = told (λ win. answers.Made win) (sub_pad_call desk win.0 rows columns row column)
window_call desk (ResizeWindow win rows columns) = done (resize_window_call desk win.0 rows columns)
window_call desk (Copy source target row column top left bottom right overlay) = done (copy_call desk source.0 target.0 row column top left bottom right overlay)
window_call desk (Overlay source target) = done (overlay_call desk source.0 target.0 true)
window_call desk (Overwrite source target) = done (overlay_call desk source.0 target.0 false)
window_call desk call = placing desk call

-- The calls that allocate memory.
abbrev pub takes_memory : Call → Bool
takes_memory (NewWindow rows columns row column) = true
takes_memory (NewPad rows columns) = true
takes_memory (Derive win rows columns row column) = true
takes_memory (Sub win rows columns row column) = true
takes_memory (SubPad win rows columns row column) = true
takes_memory (ResizeWindow win rows columns) = true
takes_memory (Copy source target row column top left bottom right overlay) = true
takes_memory (Overlay source target) = true
takes_memory (Overwrite source target) = true
takes_memory call = false

-- The answer is a refusal.
abbrev pub is_refusal : Answer → Bool
is_refusal (answers.Refused fault) = true
is_refusal answer = false

-- The call does to the windows what its definition says, gives that answer, and changes nothing else of the screen. Or
-- the whole screen stays as it was because memory ran out, in a call that allocates and that nothing else refuses.
abbrev pub OnDeskOrRefused : ScreenState → ScreenState → Answer → Call → Type 0
OnDeskOrRefused old new answer call =
    OnDesk old new answer (window_call old.desk call) ⊎ ((new ≡ old) × (answer ≡ answers.Refused NoMemory) × (is_refusal (window_call old.desk call).1 ≡ false) × (takes_memory call ≡ true))
