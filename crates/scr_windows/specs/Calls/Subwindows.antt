-- What the calls that make subwindows do. X/Open Curses Issue 7, derwin(), subwin(), subpad().
use Rattle.std.specs.Prelude.{ℕ, [], ◌∷◌, ◌++◌, Option, None, Some, Result, Ok, Err, ◌+◌, ◌-◌, ◌&&◌, leb, if◌then◌else◌}
use Rattle.scr_windows.specs.declared.surfaces.areas.Area.{Area}
use Rattle.scr_windows.specs.declared.frames.Frame.{Frame}
use Rattle.scr_windows.specs.declared.faults.Win.{Win}
use Rattle.scr_windows.specs.declared.faults.WinFault.{WinFault}
use Rattle.scr_windows.specs.declared.faults.WinFault.TheVariants.{IsPad, NotPad, NotInParent, TooMany}
use Rattle.scr_windows.specs.DeskViews.{DeskView, fresh_window, window_at}
use Rattle.scr_windows.specs.Changes.{index_of, on_window}
use Rattle.scr_windows.specs.Calls.Making.{part_of, is_full}

-- The frame of a new subwindow of window i.
abbrev pub child_frame : DeskView → ℕ → Area → Option (ℕ × ℕ) → Frame
child_frame desk i area origin =
    record { number = desk.made + 1; surface = (window_at desk i).frame.surface; area = area; parent = Some (window_at desk i).frame.number; origin = origin }

-- The desk with a new subwindow of window i, which has that window's attributes, colour pair and background.
abbrev pub with_child : DeskView → ℕ → Area → Option (ℕ × ℕ) → DeskView
with_child desk i area origin =
    record desk {
      windows = desk.windows ++ fresh_window (child_frame desk i area origin) (window_at desk i).state.attrs (window_at desk i).state.pair (window_at desk i).state.background ∷ [];
      made = desk.made + 1;
    }

-- The same, refused if there are too many windows.
abbrev pub child_made : DeskView → ℕ → Area → Option (ℕ × ℕ) → DeskView × Result Win WinFault
child_made desk i area origin = if is_full desk then (desk, Err TooMany) else (with_child desk i area origin, Ok (record { 0 = desk.made + 1 }))

-- A new subwindow on this part of its parent; refused if there is no such part.
abbrev pub child_in : DeskView → ℕ → Option Area → Option (ℕ × ℕ) → DeskView × Result Win WinFault
child_in desk i None origin = (desk, Err NotInParent)
child_in desk i (Some area) origin = child_made desk i area origin

-- derwin(): row and column count in the parent; a pad is refused.
abbrev pub derived : DeskView → ℕ → Option (ℕ × ℕ) → ℕ → ℕ → ℕ → ℕ → DeskView × Result Win WinFault
derived desk i None rows columns row column = (desk, Err IsPad)
derived desk i (Some origin) rows columns row column =
    child_in desk i (part_of (window_at desk i).frame.area rows columns row column) (Some (origin.0 + row, origin.1 + column))

-- derwin()
unfoldable pub derive_call : DeskView → ℕ → ℕ → ℕ → ℕ → ℕ → DeskView × Result Win WinFault
derive_call desk win rows columns row column = on_window desk (index_of desk win) (λ i. derived desk i (window_at desk i).frame.origin rows columns row column)

-- subwin(): row and column count on the screen; a pad is refused.
abbrev pub subdivided : DeskView → ℕ → Option (ℕ × ℕ) → ℕ → ℕ → ℕ → ℕ → DeskView × Result Win WinFault
subdivided desk i None rows columns row column = (desk, Err IsPad)
subdivided desk i (Some origin) rows columns row column =
    if leb origin.0 row && leb origin.1 column then
    derived desk i (Some origin) rows columns (row - origin.0) (column - origin.1)
    else (desk, Err NotInParent)

-- subwin()
unfoldable pub sub_call : DeskView → ℕ → ℕ → ℕ → ℕ → ℕ → DeskView × Result Win WinFault
sub_call desk win rows columns row column = on_window desk (index_of desk win) (λ i. subdivided desk i (window_at desk i).frame.origin rows columns row column)

-- subpad(): as derwin(), but the parent must be a pad.
abbrev pub pad_divided : DeskView → ℕ → Option (ℕ × ℕ) → ℕ → ℕ → ℕ → ℕ → DeskView × Result Win WinFault
pad_divided desk i None rows columns row column = child_in desk i (part_of (window_at desk i).frame.area rows columns row column) None
pad_divided desk i (Some origin) rows columns row column = (desk, Err NotPad)

-- subpad()
unfoldable pub sub_pad_call : DeskView → ℕ → ℕ → ℕ → ℕ → ℕ → DeskView × Result Win WinFault
sub_pad_call desk win rows columns row column = on_window desk (index_of desk win) (λ i. pad_divided desk i (window_at desk i).frame.origin rows columns row column)
