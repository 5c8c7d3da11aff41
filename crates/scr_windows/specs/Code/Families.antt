-- Words of private functions, which look for a window's ancestors by their numbers.
use Rattle.std.specs.Prelude.{ℕ, Bool, false, zero, suc, ◌≡◌, ◌<◌, ◌≤◌, List, length, map, Option, None, Some, slice_index_or, ◌+◌, ◌==◌, ◌||◌, MatchOption, if◌then◌else◌}
use Rattle.scr_windows.specs.declared.frames.Frame.{Frame}
use Rattle.scr_windows.specs.declared.calls.moving.WindowMove.{WindowMove}
use Rattle.scr_windows.specs.declared.calls.moving.WindowMove.TheVariants.{Screen, Surface}
use Rattle.scr_windows.specs.DeskViews.{WindowView, DeskView, window_at}
use Rattle.scr_windows.specs.Calls.Moving.{shifted}

-- what a shift of the window at an index asks for: a window without a parent stays on the screen; a subwindow stays in its parent
abbrev pub IsShift : DeskView → ℕ → WindowMove → Type 0
IsShift desk i (Screen from to) =
    ((window_at desk i).frame.parent ≡ None) × ((window_at desk i).frame.origin ≡ Some from) × (to.0 + (window_at desk i).frame.area.rows ≤ desk.rows) × (to.1 + (window_at desk i).frame.area.columns ≤ desk.columns)
IsShift desk i (Surface from to) =
    (from ≡ ((window_at desk i).frame.area.top, (window_at desk i).frame.area.left)) × ((k : ℕ) × (k < length desk.windows) × ((window_at desk i).frame.parent ≡ Some (window_at desk k).frame.number)
    × ((window_at desk k).frame.area.top ≤ to.0) × (to.0 + (window_at desk i).frame.area.rows ≤ (window_at desk k).frame.area.top + (window_at desk k).frame.area.rows)
    × ((window_at desk k).frame.area.left ≤ to.1) × (to.1 + (window_at desk i).frame.area.columns ≤ (window_at desk k).frame.area.left + (window_at desk k).frame.area.columns))

-- no sum of a shift passes the numbers' end
abbrev pub IsNear : ℕ × ℕ → Type 0
IsNear place = (place.0 ≤ 1000000) × (place.1 ≤ 1000000)

abbrev pub IsNearFrame : Frame → Type 0
IsNearFrame frame = IsNear (frame.area.top, frame.area.left) × MatchOption frame.origin (Unit {0}) IsNear

abbrev pub IsNearShift : WindowMove → Type 0
IsNearShift (Screen from to) = IsNear to
IsNearShift (Surface from to) = IsNear to

-- the number of a window, and that of its parent
abbrev pub link_of : WindowView → ℕ × Option ℕ
link_of window = (window.frame.number, window.frame.parent)

abbrev pub from_parent : (ℕ → Bool) → Option ℕ → Bool
from_parent f None = false
from_parent f (Some parent) = f parent

-- among the first so many windows, the window of a number is an ancestor or descends from it: it has the ancestor's number, or
-- its parent, which comes before it, is the ancestor or descends from it
abbrev pub descends : List (ℕ × Option ℕ) → ℕ → ℕ → ℕ → Bool
descends links ancestor zero number = false
descends links ancestor (suc k) number =
    if (slice_index_or links k (0, None)).0 == number then number == ancestor || from_parent (descends links ancestor k) (slice_index_or links k (0, None)).1
    else descends links ancestor k number

-- the frame of a window that moves if it descends from an ancestor
abbrev pub family_frame : List (ℕ × Option ℕ) → ℕ → ℕ → WindowMove → Frame → Frame
family_frame links count ancestor shift frame = if descends links ancestor count frame.number then shifted shift frame else frame

abbrev pub family_shifted : ℕ → WindowMove → List WindowView → List WindowView
family_shifted ancestor shift windows = map (λ (w : WindowView). record w { frame = family_frame (map link_of windows) (length windows) ancestor shift w.frame }) windows
