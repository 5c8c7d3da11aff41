-- The building blocks of the calls: a window is found, a window changes, places are written. Anything not mentioned
-- stays.
use Rattle.std.specs.Prelude.{ℕ, Bool, length, Option, None, Some, Result, Ok, Err, IsOk, ◌≡◌, ◌⊎◌, ◌==◌, ◌&&◌, leb, ltb, if◌then◌else◌, true, false, List, map, slice_index_or, slice_set}
use Rattle.scr_windows.specs.declared.frames.Frame.{Frame}
use Rattle.scr_windows.specs.declared.faults.WinFault.{WinFault}
use Rattle.scr_windows.specs.declared.faults.WinFault.TheVariants.{NoMemory, NoWindow}
use Rattle.scr_windows.specs.DeskViews.{DeskView, window_at, WindowView, surface_at}
use Rattle.scr_cells.specs.CellViews.{CellView}
use Rattle.scr_windows.specs.Surfaces.SurfaceViews.{SurfaceView, filled, inside_at}
use Rattle.std.specs.List.{position, range_with_len}

-- A call that allocates: it does what its definition says; or memory ran out in a call that nothing else refuses, and
-- the desk stays.
abbrev pub Allocated : {A : Type 0} → DeskView → DeskView × Result A WinFault → DeskView × Result A WinFault → Type 0
Allocated old call now = (now ≡ call) ⊎ ((now ≡ (old, Err NoMemory)) × IsOk call.1)

-- The window was found, or `NoWindow`.
abbrev pub found : Option ℕ → Result ℕ WinFault
found None = Err NoWindow
found (Some i) = Ok i

-- The index of the window with this number.
abbrev pub index_of : DeskView → ℕ → Result ℕ WinFault
index_of desk number = found (position (λ (w : WindowView). w.frame.number == number) desk.windows)

-- A call on a window: refused if there is no such window, otherwise it continues with the window's index.
abbrev pub on_window : {A : Type 0} → DeskView → Result ℕ WinFault → (ℕ → DeskView × Result A WinFault) → DeskView × Result A WinFault
on_window desk (Err fault) f = (desk, Err fault)
on_window desk (Ok i) f = f i

-- The desk with one window changed.
abbrev pub with_window : DeskView → ℕ → WindowView → DeskView
with_window desk i window = record desk { windows = slice_set desk.windows i window }

-- The desk with one surface changed.
abbrev pub with_surface : DeskView → ℕ → SurfaceView → DeskView
with_surface desk k surface = record desk { surfaces = slice_set desk.surfaces k surface }

-- The places of a window get the cells of a formula over the window's cells before; every other place of every surface
-- stays.
abbrev pub fill : DeskView → ℕ → ((ℕ → ℕ → CellView) → ℕ → ℕ → CellView) → DeskView
fill desk i f =
    let frame : Frame = (window_at desk i).frame in
    let surface : SurfaceView = surface_at desk frame.surface in
    with_surface desk frame.surface (filled surface frame.area (f (inside_at surface frame.area)))

-- The marks with those of lines `first` up to, but not including, `end` set to `mark`.
unfoldable pub marked_lines : ℕ → ℕ → Bool → List Bool → List Bool
marked_lines first end mark marks = map (λ r. if leb first r && ltb r end then mark else slice_index_or marks r false) (range_with_len 0 (length marks))

-- The window with these lines marked as touched or not; the others stay.
abbrev pub marked : ℕ → ℕ → Bool → WindowView → WindowView
marked first end mark window = record window { touched = marked_lines first end mark window.touched }

-- A call that writes cells in some lines of a window and touches these lines.
unfoldable pub write : DeskView → ℕ → ℕ → ℕ → ((ℕ → ℕ → CellView) → ℕ → ℕ → CellView) → DeskView
write desk i first end f = with_window (fill desk i f) i (marked first end true (window_at desk i))
