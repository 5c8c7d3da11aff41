-- A desk: surfaces, and the windows on them. X/Open Curses Issue 7, 'Screens, Windows and Terminals'.
use Rattle.std.specs.Prelude.{ℕ, Bool, true, false, ◌≡◌, ◌≢◌, ◌+◌, ◌-◌, ◌^◌, ◌<◌, ◌≤◌, List, [], ◌∷◌, length, map, replicate, None, Some, slice_index_or, MatchOption, Option, All}
use Rattle.std.specs.List.{AllPairs}
use Rattle.scr_cells.specs.CellViews.{CellView, IsPair, blank_cell}
use Rattle.scr_cells.specs.PictureViews.{IsSize}
use Rattle.scr_windows.specs.declared.surfaces.areas.Area.{Area}
use Rattle.scr_windows.specs.declared.frames.Frame.{Frame}
use Rattle.scr_windows.specs.declared.frames.WindowState.{WindowState}
use Rattle.scr_cells.specs.declared.attributes.Attrs.{Attrs}
use Rattle.scr_windows.specs.Surfaces.SurfaceViews.{SurfaceView, IsSurface, IsPart, blank_surface}

-- A window: its frame, which no drawing changes; what the calls set; and for each line whether it is touched.
pub record WindowView : Type 0 where
  pub frame : Frame
  pub state : WindowState
  pub touched : List Bool

-- The screen's size; the surfaces; the windows that exist, in ascending order of their numbers; and how many windows
-- were made after the first. A window's frame holds the index of its surface.
pub record DeskView : Type 0 where
  pub rows : ℕ
  pub columns : ℕ
  pub surfaces : List SurfaceView
  pub windows : List WindowView
  pub made : ℕ

-- The desk is on a screen of the same size.
pub record HasSameSize (old new : DeskView) : Type 0 where
  pub rows : new.rows ≡ old.rows
  pub columns : new.columns ≡ old.columns

-- A new window: cursor in the first place, the whole window as region, every setting off, all lines touched.
abbrev pub fresh_window : Frame → Attrs → ℕ → CellView → WindowView
fresh_window frame attrs pair background =
    record {
      frame = frame;
      state = record { cursor = (0, 0); attrs = attrs; pair = pair; background = background; region = (0, frame.area.rows - 1); scroll_ok = false; clear_ok = false; leave_ok = false };
      touched = replicate frame.area.rows true;
    }

-- The windows are in ascending order of their numbers.
abbrev pub AreAscending : List WindowView → Type 0
AreAscending windows = AllPairs (λ (v : WindowView) (w : WindowView). v.frame.number < w.frame.number) windows

-- No attributes.
abbrev pub no_attributes : Attrs
no_attributes = record { 0 = 0 }

-- A stand-in for a frame where there is none.
abbrev pub no_frame : Frame
no_frame = record { number = 0; surface = 0; area = record { top = 0; left = 0; rows = 0; columns = 0 }; parent = None; origin = None }

-- A stand-in for a window where there is none.
abbrev pub no_window : WindowView
no_window = fresh_window no_frame no_attributes 0 blank_cell

-- The window at index i.
abbrev pub window_at : DeskView → ℕ → WindowView
window_at desk i = slice_index_or desk.windows i no_window

-- A stand-in for a surface where there is none.
abbrev pub no_surface : SurfaceView
no_surface = record { rows = 0; columns = 0; lines = [] }

-- The surface at index k.
abbrev pub surface_at : DeskView → ℕ → SurfaceView
surface_at desk k = slice_index_or desk.surfaces k no_surface

-- The rows and columns of the surface at index k; 0 if there is none.
abbrev pub size_on : List SurfaceView → ℕ → ℕ × ℕ
size_on surfaces k = ((slice_index_or surfaces k no_surface).rows, (slice_index_or surfaces k no_surface).columns)

-- A valid window state: cursor and region inside the window, and the number of a colour pair.
pub record IsState (frame : Frame) (state : WindowState) : Type 0 where
  pub cursor_row : state.cursor.0 < frame.area.rows
  pub cursor_column : state.cursor.1 < frame.area.columns
  pub region_order : state.region.0 ≤ state.region.1
  pub region_end : state.region.1 < frame.area.rows
  pub pair : IsPair state.pair

-- A valid window: a valid state, and a mark for each line.
pub record IsWindow (window : WindowView) : Type 0 where
  pub state : IsState window.frame window.state
  pub touched : length window.touched ≡ window.frame.area.rows

-- The window has a place, lies wholly on its surface and, if it has a place on the screen, wholly on the screen.
pub record IsPlaced (rows columns : ℕ) (sizes : ℕ → ℕ × ℕ) (frame : Frame) : Type 0 where
  pub some_rows : 1 ≤ frame.area.rows
  pub some_columns : 1 ≤ frame.area.columns
  pub below : frame.area.top + frame.area.rows ≤ (sizes frame.surface).0
  pub right : frame.area.left + frame.area.columns ≤ (sizes frame.surface).1
  pub origin : MatchOption frame.origin (Unit {0}) (λ place. (place.0 + frame.area.rows ≤ rows) × (place.1 + frame.area.columns ≤ columns))

-- One window's place on the screen is wholly inside another's, or neither is on the screen.
abbrev pub IsInsideOnScreen : Option (ℕ × ℕ) → Area → Option (ℕ × ℕ) → Area → Type 0
IsInsideOnScreen None area None within = Unit {0}
IsInsideOnScreen None area (Some above) within = ⊥
IsInsideOnScreen (Some place) area None within = ⊥
IsInsideOnScreen (Some place) area (Some above) within =
    (above.0 ≤ place.0) × (place.0 + area.rows ≤ above.0 + within.rows) × (above.1 ≤ place.1) × (place.1 + area.columns ≤ above.1 + within.columns)

-- The frame is that of a child: it lies wholly inside its parent's, on the same surface and on the screen, and was made
-- later.
pub record IsChild (frame parent : Frame) : Type 0 where
  pub later : parent.number < frame.number
  pub surface : frame.surface ≡ parent.surface
  pub above : parent.area.top ≤ frame.area.top
  pub below : frame.area.top + frame.area.rows ≤ parent.area.top + parent.area.rows
  pub left : parent.area.left ≤ frame.area.left
  pub right : frame.area.left + frame.area.columns ≤ parent.area.left + parent.area.columns
  pub on_screen : IsInsideOnScreen frame.origin frame.area parent.origin parent.area

-- A window that is not a subwindow has a surface of its own: no two of them share one.
abbrev pub HaveOwn : Frame → Frame → Type 0
HaveOwn frame other = frame.parent ≡ None → other.parent ≡ None → frame.surface ≢ other.surface

-- Valid frames: at most 1,000, in ascending order of their numbers, none above the last one given; each window that is
-- not a subwindow has a surface of its own; each subwindow's parent exists, and it lies inside it.
pub record AreFrames (rows columns : ℕ) (sizes : ℕ → ℕ × ℕ) (made : ℕ) (frames : List Frame) : Type 0 where
  pub few : length frames ≤ 1000
  pub placed : All (IsPlaced rows columns sizes) frames
  pub numbers : All (λ frame. frame.number ≤ made) frames
  pub ascending : (i j : ℕ) → i < j → j < length frames → (slice_index_or frames i no_frame).number < (slice_index_or frames j no_frame).number
  pub own : AllPairs HaveOwn frames
  pub parents : All (λ frame. MatchOption frame.parent (Unit {0}) (λ number. (k : ℕ) × (k < length frames) × ((slice_index_or frames k no_frame).number ≡ number) × IsChild frame (slice_index_or frames k no_frame))) frames

-- A valid desk: a valid size, and valid surfaces, windows and frames.
pub record IsDesk (desk : DeskView) : Type 0 where
  pub size : IsSize desk.rows desk.columns
  pub made : desk.made < 2 ^ 32
  pub surfaces : All IsSurface desk.surfaces
  pub windows : All IsWindow desk.windows
  pub frames : AreFrames desk.rows desk.columns (size_on desk.surfaces) desk.made (map (λ (w : WindowView). w.frame) desk.windows)

-- The frame of the first window, over the whole screen.
abbrev pub first_frame : ℕ → ℕ → Frame
first_frame rows columns = record { number = 0; surface = 0; area = record { top = 0; left = 0; rows = rows; columns = columns }; parent = None; origin = Some (0, 0) }

-- A window that exists, and what is known of it: it is valid, and lies on its surface and, if it has a place there, on
-- the screen.
pub record IsThere (desk : DeskView) (i : ℕ) : Type 0 where
  pub here : i < length desk.windows
  pub window : IsWindow (window_at desk i)
  pub surface : (window_at desk i).frame.surface < length desk.surfaces
  pub whole : IsSurface (surface_at desk (window_at desk i).frame.surface)
  pub part : IsPart (surface_at desk (window_at desk i).frame.surface) (window_at desk i).frame.area
  pub screen : IsSize desk.rows desk.columns
  pub origin : MatchOption (window_at desk i).frame.origin (Unit {0}) (λ place. (place.0 + (window_at desk i).frame.area.rows ≤ desk.rows) × (place.1 + (window_at desk i).frame.area.columns ≤ desk.columns))

-- A desk with one blank window over the whole screen.
abbrev pub first_desk : ℕ → ℕ → DeskView
first_desk rows columns =
    record {
      rows = rows;
      columns = columns;
      surfaces = blank_surface rows columns ∷ [];
      windows = fresh_window (first_frame rows columns) no_attributes 0 blank_cell ∷ [];
      made = 0;
    }
