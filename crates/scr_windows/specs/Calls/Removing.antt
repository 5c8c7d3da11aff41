-- What the call that deletes a window does. X/Open Curses Issue 7, delwin().
use Rattle.std.specs.Prelude.{ℕ, Bool, false, List, filter, map, not, Option, None, Some, Result, Ok, Err, ◌-◌, ◌==◌, ltb, if◌then◌else◌}
use Rattle.std.specs.List.{list_any, remove}
use Rattle.scr_windows.specs.declared.faults.WinFault.{WinFault}
use Rattle.scr_windows.specs.declared.faults.WinFault.TheVariants.{HasChildren}
use Rattle.scr_windows.specs.DeskViews.{WindowView, DeskView, window_at}
use Rattle.scr_windows.specs.Changes.{index_of, on_window}

-- The parent is the window with this number.
abbrev pub is_number : ℕ → Option ℕ → Bool
is_number number None = false
is_number number (Some parent) = parent == number

-- Some window is a subwindow of the window with this number.
abbrev pub has_children : ℕ → List WindowView → Bool
has_children number windows = list_any (λ (w : WindowView). is_number number w.frame.parent) windows

-- All windows but the one with this number.
abbrev pub others : ℕ → List WindowView → List WindowView
others number windows = filter (λ (w : WindowView). not (w.frame.number == number)) windows

-- The desk without the window with this number.
abbrev pub without_window : DeskView → ℕ → DeskView
without_window desk number = record desk { windows = others number desk.windows }

-- The window, with its surface at this index.
abbrev pub on_surface : ℕ → WindowView → WindowView
on_surface k window = record window { frame = record window.frame { surface = k } }

-- The index of a surface when the one at index `gone` is gone: those behind it move up by one.
abbrev pub moved_up : ℕ → ℕ → ℕ
moved_up gone k = if ltb gone k then k - 1 else k

-- The desk without the surface at index `gone`; each window stays on its own.
abbrev pub without_surface : DeskView → ℕ → DeskView
without_surface desk gone =
    record desk {
      surfaces = remove desk.surfaces gone;
      windows = map (λ (w : WindowView). on_surface (moved_up gone w.frame.surface) w) desk.windows;
    }

-- The surface goes with a window that has no parent. That of a subwindow is its parent's, and stays.
abbrev pub let_go : DeskView → Option ℕ → ℕ → DeskView
let_go desk None k = without_surface desk k
let_go desk (Some parent) k = desk

-- Window i goes, and so does its surface, if it is not a subwindow; all other windows and surfaces stay.
abbrev pub deleted : DeskView → ℕ → DeskView
deleted desk i = let_go (without_window desk (window_at desk i).frame.number) (window_at desk i).frame.parent (window_at desk i).frame.surface

-- delwin(): a window with subwindows is refused.
unfoldable pub delete_call : DeskView → ℕ → DeskView × Result (Unit {0}) WinFault
delete_call desk win = on_window desk (index_of desk win) (λ i. if has_children win desk.windows then (desk, Err HasChildren) else (deleted desk i, Ok tt))
