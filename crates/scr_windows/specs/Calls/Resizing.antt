-- What the call that gives a window another size does. X/Open Curses Issue 7 has no such call; elsewhere it is wresize().
use Rattle.std.specs.Prelude.{ℕ, Bool, true, Option, None, Some, Result, Ok, Err, replicate, ◌+◌, ◌-◌, ◌&&◌, leb, ltb, if◌then◌else◌}
use Rattle.scr_windows.specs.declared.surfaces.areas.Area.{Area}
use Rattle.scr_windows.specs.declared.frames.Frame.{Frame}
use Rattle.scr_windows.specs.declared.faults.WinFault.{WinFault}
use Rattle.scr_windows.specs.declared.faults.WinFault.TheVariants.{HasChildren, OffScreen, NotInParent}
use Rattle.scr_windows.specs.Surfaces.SurfaceViews.{SurfaceView, resized_surface}
use Rattle.scr_windows.specs.DeskViews.{WindowView, DeskView, surface_at, window_at}
use Rattle.scr_windows.specs.Changes.{index_of, on_window, with_surface, with_window}
use Rattle.scr_windows.specs.Calls.Making.{part_of, pad_size, screen_area}
use Rattle.scr_windows.specs.Calls.Removing.{has_children}

-- The place among so many that is nearest to this one.
abbrev pub nearest : ℕ → ℕ → ℕ
nearest count place = if ltb place count then place else count - 1

-- A window with another area: the whole of it is the region, the cursor is at the nearest place inside, and every line
-- is touched.
abbrev pub resized : Area → WindowView → WindowView
resized area window =
    record {
      frame = record window.frame { area = area };
      state = record window.state { cursor = (nearest area.rows window.state.cursor.0, nearest area.columns window.state.cursor.1); region = (0, area.rows - 1) };
      touched = replicate area.rows true;
    }

-- The size of an area of the screen.
abbrev pub screen_size : Option Area → Result (ℕ × ℕ) WinFault
screen_size None = Err OffScreen
screen_size (Some area) = Ok (area.rows, area.columns)

-- The size that newwin() gives a window with its first place here, and newpad() a pad.
abbrev pub root_size : DeskView → Option (ℕ × ℕ) → ℕ → ℕ → Result (ℕ × ℕ) WinFault
root_size desk None rows columns = pad_size rows columns
root_size desk (Some origin) rows columns = screen_size (part_of (screen_area desk) rows columns origin.0 origin.1)

-- The area of a surface of its own.
abbrev pub whole_area : ℕ → ℕ → Area
whole_area rows columns = record { top = 0; left = 0; rows = rows; columns = columns }

-- A window with a surface of its own gets this size: its cells that fit stay, and the others are its background.
abbrev pub with_root_size : DeskView → ℕ → ℕ → ℕ → DeskView
with_root_size desk i rows columns =
    let window : WindowView = window_at desk i in
    let surface : SurfaceView = resized_surface (surface_at desk window.frame.surface) window.frame.area rows columns window.state.background in
    with_window (with_surface desk window.frame.surface surface) i (resized (whole_area rows columns) window)

-- The same, refused if there is no size.
abbrev pub root_resized : DeskView → ℕ → Result (ℕ × ℕ) WinFault → DeskView × Result (Unit {0}) WinFault
root_resized desk i (Err fault) = (desk, Err fault)
root_resized desk i (Ok size) = (with_root_size desk i size.0 size.1, Ok tt)

-- On the screen, an area from one place on ends inside another from its place on.
abbrev pub ends_inside : Option (ℕ × ℕ) → Area → Option (ℕ × ℕ) → Area → Bool
ends_inside None area above within = true
ends_inside (Some place) area None within = true
ends_inside (Some place) area (Some above) within = leb (place.0 + area.rows) (above.0 + within.rows) && leb (place.1 + area.columns) (above.1 + within.columns)

-- This many rows and columns of the parent's area, from the first place of a subwindow on; 0 means all to the end.
abbrev pub area_in : Frame → Frame → ℕ → ℕ → Option Area
area_in frame parent rows columns = part_of parent.area rows columns (frame.area.top - parent.area.top) (frame.area.left - parent.area.left)

-- A subwindow gets this area, which has to be inside its parent's on the screen too. No cell changes.
abbrev pub sub_resized : DeskView → ℕ → Frame → Option Area → DeskView × Result (Unit {0}) WinFault
sub_resized desk i parent None = (desk, Err NotInParent)
sub_resized desk i parent (Some area) =
    if ends_inside (window_at desk i).frame.origin area parent.origin parent.area then (with_window desk i (resized area (window_at desk i)), Ok tt)
    else (desk, Err NotInParent)

-- A window without subwindows gets another size.
abbrev pub window_resized : DeskView → ℕ → Option ℕ → ℕ → ℕ → DeskView × Result (Unit {0}) WinFault
window_resized desk i None rows columns = root_resized desk i (root_size desk (window_at desk i).frame.origin rows columns)
window_resized desk i (Some parent) rows columns =
    on_window desk (index_of desk parent) (λ k. sub_resized desk i (window_at desk k).frame (area_in (window_at desk i).frame (window_at desk k).frame rows columns))

-- wresize(): a window with subwindows is refused.
unfoldable pub resize_window_call : DeskView → ℕ → ℕ → ℕ → DeskView × Result (Unit {0}) WinFault
resize_window_call desk win rows columns =
    on_window desk (index_of desk win) (λ i. if has_children win desk.windows then (desk, Err HasChildren) else window_resized desk i (window_at desk i).frame.parent rows columns)
