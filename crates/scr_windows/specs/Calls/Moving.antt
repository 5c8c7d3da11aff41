-- What the calls that move windows do. X/Open Curses Issue 7, mvwin(), mvderwin().
use Rattle.std.specs.Prelude.{ℕ, Bool, true, length, map, Option, None, Some, Result, Ok, Err, ◌+◌, ◌-◌, ◌==◌, ◌&&◌, ◌||◌, leb, if◌then◌else◌}
use Rattle.std.specs.List.{list_any, range_with_len}
use Rattle.scr_windows.specs.declared.surfaces.areas.Area.{Area}
use Rattle.scr_windows.specs.declared.frames.Frame.{Frame}
use Rattle.scr_windows.specs.declared.calls.moving.WindowMove.{WindowMove}
use Rattle.scr_windows.specs.declared.calls.moving.WindowMove.TheVariants.{Screen, Surface}
use Rattle.scr_windows.specs.declared.faults.WinFault.{WinFault}
use Rattle.scr_windows.specs.declared.faults.WinFault.TheVariants.{IsPad, IsSub, OffScreen, NotInParent}
use Rattle.scr_windows.specs.DeskViews.{DeskView, window_at}
use Rattle.scr_windows.specs.Changes.{index_of, on_window, with_window, marked}
use Rattle.scr_windows.specs.Calls.Syncing.{ancestors}

-- A place moved by the distance from `from` to `to`.
abbrev pub place_shifted : ℕ × ℕ → ℕ × ℕ → ℕ × ℕ → ℕ × ℕ
place_shifted from to place = (to.0 + (place.0 - from.0), to.1 + (place.1 - from.1))

-- The same for a place on the screen, if there is one.
abbrev pub origin_shifted : ℕ × ℕ → ℕ × ℕ → Option (ℕ × ℕ) → Option (ℕ × ℕ)
origin_shifted from to None = None
origin_shifted from to (Some place) = Some (place_shifted from to place)

-- The same for an area of a surface.
abbrev pub area_shifted : ℕ × ℕ → ℕ × ℕ → Area → Area
area_shifted from to area = record area { top = to.0 + (area.top - from.0); left = to.1 + (area.left - from.1) }

-- A frame moved on the screen, or on its surface.
abbrev pub shifted : WindowMove → Frame → Frame
shifted (Screen from to) frame = record frame { origin = origin_shifted from to frame.origin }
shifted (Surface from to) frame = record frame { area = area_shifted from to frame.area }

-- Window k is window i or descends from it.
abbrev pub is_family : DeskView → ℕ → ℕ → Bool
is_family desk i k = k == i || list_any (λ above. above == i) (ancestors desk k)

-- A window and its descendants move; no other window does.
abbrev pub with_family_shifted : DeskView → ℕ → WindowMove → DeskView
with_family_shifted desk i shift =
    record desk {
      windows = map (λ k. if is_family desk i k then record (window_at desk k) { frame = shifted shift (window_at desk k).frame } else window_at desk k) (range_with_len 0 (length desk.windows));
    }

-- The same, and the window's own lines are touched.
abbrev pub moved : DeskView → ℕ → WindowMove → DeskView
moved desk i shift =
    with_window (with_family_shifted desk i shift) i (marked 0 (window_at desk i).frame.area.rows true (window_at (with_family_shifted desk i shift) i))

-- The window's first place goes to (row, column) of the screen. Pads, subwindows and places off the screen are refused.
abbrev pub window_moved : DeskView → ℕ → Option (ℕ × ℕ) → Option ℕ → ℕ → ℕ → DeskView × Result (Unit {0}) WinFault
window_moved desk i None parent row column = (desk, Err IsPad)
window_moved desk i (Some origin) (Some parent) row column = (desk, Err IsSub)
window_moved desk i (Some origin) None row column =
    if leb (row + (window_at desk i).frame.area.rows) desk.rows && leb (column + (window_at desk i).frame.area.columns) desk.columns then
    (moved desk i (Screen origin (row, column)), Ok tt)
    else (desk, Err OffScreen)

-- mvwin(): a window moves on the screen, and its descendants move with it.
unfoldable pub move_window_call : DeskView → ℕ → ℕ → ℕ → DeskView × Result (Unit {0}) WinFault
move_window_call desk win row column = on_window desk (index_of desk win) (λ i. window_moved desk i (window_at desk i).frame.origin (window_at desk i).frame.parent row column)

-- The first place of the window's part of its surface goes to (row, column) of the parent's part.
abbrev pub moved_in : DeskView → ℕ → Area → ℕ → ℕ → DeskView × Result (Unit {0}) WinFault
moved_in desk i within row column =
    let area : Area = (window_at desk i).frame.area in
    if leb (row + area.rows) within.rows && leb (column + area.columns) within.columns then
    (moved desk i (Surface (area.top, area.left) (within.top + row, within.left + column)), Ok tt)
    else (desk, Err NotInParent)

-- A subwindow's part of the surface moves in its parent's, and those of its descendants move along; places on the
-- screen stay.
abbrev pub derived_moved : DeskView → ℕ → Option (ℕ × ℕ) → Option ℕ → ℕ → ℕ → DeskView × Result (Unit {0}) WinFault
derived_moved desk i None parent row column = (desk, Err IsPad)
derived_moved desk i (Some origin) None row column = (desk, Err NotInParent)
derived_moved desk i (Some origin) (Some parent) row column = on_window desk (index_of desk parent) (λ k. moved_in desk i (window_at desk k).frame.area row column)

-- mvderwin().
unfoldable pub move_derived_call : DeskView → ℕ → ℕ → ℕ → DeskView × Result (Unit {0}) WinFault
move_derived_call desk win row column = on_window desk (index_of desk win) (λ i. derived_moved desk i (window_at desk i).frame.origin (window_at desk i).frame.parent row column)
