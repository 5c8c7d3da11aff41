-- What the calls that touch lines of windows on a shared surface do. X/Open Curses Issue 7, syncok(), wsyncup(),
-- wsyncdown().
use Rattle.std.specs.Prelude.{ℕ, Bool, false, List, [], ◌∷◌, length, map, zero, suc, Option, None, Some, slice_index_or, Result, Ok, ◌+◌, ◌-◌, ◌==◌, ◌||◌, ◌&&◌, leb, if◌then◌else◌}
use Rattle.std.specs.List.{list_any, position, range_with_len}
use Rattle.scr_windows.specs.declared.frames.Frame.{Frame}
use Rattle.scr_windows.specs.declared.faults.WinFault.{WinFault}
use Rattle.scr_windows.specs.DeskViews.{WindowView, DeskView, window_at, no_frame}
use Rattle.scr_windows.specs.Changes.{index_of, on_window, with_window}

-- The frames of all windows.
abbrev pub frames_of : DeskView → List Frame
frames_of desk = map (λ (w : WindowView). w.frame) desk.windows

-- The index of the window with the parent's number.
abbrev pub index_of_parent : List Frame → Option ℕ → Option ℕ
index_of_parent frames None = None
index_of_parent frames (Some number) = position (λ (frame : Frame). frame.number == number) frames

-- The index of a window's parent.
abbrev pub parent_index : List Frame → ℕ → Option ℕ
parent_index frames i = index_of_parent frames (slice_index_or frames i no_frame).parent

-- The indices of a window, its parent, its parent's parent and so on, at most this many.
abbrev pub chain : ℕ → List Frame → Option ℕ → List ℕ
chain zero frames i = []
chain (suc most) frames None = []
chain (suc most) frames (Some i) = i ∷ chain most frames (parent_index frames i)

-- The indices of a window's ancestors. The list is complete: a parent always comes before its children.
abbrev pub ancestors : DeskView → ℕ → List ℕ
ancestors desk i = chain (length (frames_of desk)) (frames_of desk) (parent_index (frames_of desk) i)

-- The window has a touched line in this row of its surface.
abbrev pub touched_at : WindowView → ℕ → Bool
touched_at window row = leb window.frame.area.top row && slice_index_or window.touched (row - window.frame.area.top) false

-- The window's lines in these rows of its surface are touched; the others stay.
abbrev pub with_touched : (ℕ → Bool) → WindowView → WindowView
with_touched rows window =
    record window { touched = map (λ r. slice_index_or window.touched r false || rows (window.frame.area.top + r)) (range_with_len 0 (length window.touched)) }

-- Each ancestor's line in the surface row of a touched line of the window is touched.
abbrev pub touched_up : List ℕ → DeskView → ℕ → DeskView
touched_up indices desk i =
    record desk {
      windows = map (λ k. if list_any (λ index. index == k) indices then with_touched (touched_at (window_at desk i)) (window_at desk k) else window_at desk k) (range_with_len 0 (length desk.windows));
    }

-- wsyncup()
unfoldable pub sync_up_call : DeskView → ℕ → DeskView × Result (Unit {0}) WinFault
sync_up_call desk win = on_window desk (index_of desk win) (λ i. (touched_up (ancestors desk i) desk i, Ok tt))

-- Each line of the window in the surface row of a touched line of an ancestor is touched.
abbrev pub touched_down : List ℕ → DeskView → ℕ → DeskView
touched_down indices desk i = with_window desk i (with_touched (λ row. list_any (λ k. touched_at (window_at desk k) row) indices) (window_at desk i))

-- wsyncdown()
unfoldable pub sync_down_call : DeskView → ℕ → DeskView × Result (Unit {0}) WinFault
sync_down_call desk win = on_window desk (index_of desk win) (λ i. (touched_down (ancestors desk i) desk i, Ok tt))
