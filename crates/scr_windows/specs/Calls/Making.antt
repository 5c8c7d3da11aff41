-- What the calls that make windows and pads do. X/Open Curses Issue 7, newwin(), newpad().
use Rattle.std.specs.Prelude.{ℕ, Bool, [], ◌∷◌, ◌++◌, length, Option, None, Some, Result, Ok, Err, ◌+◌, ◌-◌, ◌==◌, ◌&&◌, ◌||◌, ◌*◌, leb, ltb, if◌then◌else◌}
use Rattle.scr_windows.specs.declared.surfaces.areas.Area.{Area}
use Rattle.scr_windows.specs.declared.frames.Frame.{Frame}
use Rattle.scr_windows.specs.declared.faults.Win.{Win}
use Rattle.scr_windows.specs.declared.faults.WinFault.{WinFault}
use Rattle.scr_windows.specs.declared.faults.WinFault.TheVariants.{OutOfWindow, OffScreen, TooBig, TooMany}
use Rattle.scr_windows.specs.DeskViews.{DeskView, fresh_window, no_attributes}
use Rattle.scr_cells.specs.CellViews.{blank_cell}
use Rattle.scr_windows.specs.Surfaces.SurfaceViews.{blank_surface}

-- This many rows and columns of an area, from (row, column) on; 0 means all to the end. None if this is empty or not
-- wholly inside. Places are counted on the surface.
unfoldable pub part_of : Area → ℕ → ℕ → ℕ → ℕ → Option Area
part_of area rows columns row column =
    let r : ℕ = (if rows == 0 then area.rows - row else rows) in
    let c : ℕ = (if columns == 0 then area.columns - column else columns) in
    if leb 1 r && leb 1 c && leb (row + r) area.rows && leb (column + c) area.columns then
    Some (record { top = area.top + row; left = area.left + column; rows = r; columns = c })
    else None

-- There are 1,000 windows, or 4,294,967,295 were made after the first.
abbrev pub is_full : DeskView → Bool
is_full desk = leb 1000 (length desk.windows) || leb 4294967295 desk.made

-- The frame of a new window on a surface of its own, which comes after all others.
abbrev pub root_frame : DeskView → ℕ → ℕ → Option (ℕ × ℕ) → Frame
root_frame desk rows columns origin =
    record { number = desk.made + 1; surface = length desk.surfaces; area = record { top = 0; left = 0; rows = rows; columns = columns }; parent = None; origin = origin }

-- The desk with a new blank window on a surface of its own.
abbrev pub with_root : DeskView → ℕ → ℕ → Option (ℕ × ℕ) → DeskView
with_root desk rows columns origin =
    record desk {
      surfaces = desk.surfaces ++ blank_surface rows columns ∷ [];
      windows = desk.windows ++ fresh_window (root_frame desk rows columns origin) no_attributes 0 blank_cell ∷ [];
      made = desk.made + 1;
    }

-- The same, refused if there are too many windows.
abbrev pub root_made : DeskView → ℕ → ℕ → Option (ℕ × ℕ) → DeskView × Result Win WinFault
root_made desk rows columns origin = if is_full desk then (desk, Err TooMany) else (with_root desk rows columns origin, Ok (record { 0 = desk.made + 1 }))

-- The whole screen.
abbrev pub screen_area : DeskView → Area
screen_area desk = record { top = 0; left = 0; rows = desk.rows; columns = desk.columns }

-- A new window on this area of the screen, refused if there is none.
abbrev pub window_in : DeskView → Option Area → ℕ → ℕ → DeskView × Result Win WinFault
window_in desk None row column = (desk, Err OffScreen)
window_in desk (Some area) row column = root_made desk area.rows area.columns (Some (row, column))

-- newwin(): the window covers a part of the screen.
unfoldable pub new_window_call : DeskView → ℕ → ℕ → ℕ → ℕ → DeskView × Result Win WinFault
new_window_call desk rows columns row column = window_in desk (part_of (screen_area desk) rows columns row column) row column

-- The size of a pad: at least one place and at most 1,000,000.
unfoldable pub pad_size : ℕ → ℕ → Result (ℕ × ℕ) WinFault
pad_size rows columns = if rows == 0 || columns == 0 then Err OutOfWindow else if ltb 1000000 (rows * columns) then Err TooBig else Ok (rows, columns)

-- A new pad of this size, refused if there is none.
abbrev pub pad_in : DeskView → Result (ℕ × ℕ) WinFault → DeskView × Result Win WinFault
pad_in desk (Err fault) = (desk, Err fault)
pad_in desk (Ok size) = root_made desk size.0 size.1 None

-- newpad()
unfoldable pub new_pad_call : DeskView → ℕ → ℕ → DeskView × Result Win WinFault
new_pad_call desk rows columns = pad_in desk (pad_size rows columns)
