-- Laws of desks: what follows from the definitions of the calls, as a check on them.
use Rattle.std.specs.Prelude.{ℕ, ◌≡◌, ◌≢◌, ◌↔◌, ◌+◌, ◌-◌, ◌<◌, Some, Ok, false, length}
use Rattle.scr_cells.specs.CellViews.{CellView}
use Rattle.scr_windows.specs.Surfaces.SurfaceViews.{is_inside}
use Rattle.scr_windows.specs.DeskViews.{DeskView, IsDesk, IsThere, window_at}
use Rattle.scr_windows.specs.Changes.{index_of, write}
use Rattle.scr_windows.specs.Calls.Moving.{move_window_call, move_derived_call}
use Rattle.scr_windows.specs.Calls.Reading.{at}
use Rattle.scr_windows.specs.Calls.Removing.{has_children, deleted, on_surface}
use Rattle.scr_windows.specs.Calls.Resizing.{resize_window_call}

-- newwin(): every window that is found lies on its surface and, if it has a place there, wholly on the screen.
abbrev pub WindowsArePlaced : Type 0
WindowsArePlaced = (desk : DeskView) (number i : ℕ) → IsDesk desk → index_of desk number ≡ Ok i → IsThere desk i

-- Window m of a desk is window k of the one before, with all its cells. Only the index of its surface may be another.
pub record IsKeptAt (old new : DeskView) (k m : ℕ) : Type 0 where
  pub window : window_at new m ≡ on_surface (window_at new m).frame.surface (window_at old k)
  pub cells : (r c : ℕ) → at new m r c ≡ at old k r c

-- delwin(): every other window stays as it is, with all its cells, and two of them share a surface exactly if they did
-- before.
pub record DeletingKeepsOthers : Type 0 where
  pub others : (desk : DeskView) (number i other k : ℕ) → IsDesk desk → index_of desk number ≡ Ok i → has_children number desk.windows ≡ false → other ≢ number → index_of desk other ≡ Ok k
      → (m : ℕ) × (index_of (deleted desk i) other ≡ Ok m) × IsKeptAt desk (deleted desk i) k m
  pub sharing : (desk : DeskView) (number i one other k l m n : ℕ) → IsDesk desk → index_of desk number ≡ Ok i → has_children number desk.windows ≡ false → one ≢ number → other ≢ number
      → index_of desk one ≡ Ok k → index_of desk other ≡ Ok l → index_of (deleted desk i) one ≡ Ok m → index_of (deleted desk i) other ≡ Ok n
      → ((window_at (deleted desk i) m).frame.surface ≡ (window_at (deleted desk i) n).frame.surface) ↔ ((window_at desk k).frame.surface ≡ (window_at desk l).frame.surface)

-- derwin(): a subwindow's cell is the parent's cell in the same place of their surface.
abbrev pub SubwindowsShareCells : Type 0
SubwindowsShareCells =
    (desk : DeskView) (number k i : ℕ) → IsDesk desk → k < length desk.windows → (window_at desk k).frame.parent ≡ Some number → index_of desk number ≡ Ok i
    → (r c : ℕ) → at desk k r c ≡ at desk i (r + ((window_at desk k).frame.area.top - (window_at desk i).frame.area.top)) (c + ((window_at desk k).frame.area.left - (window_at desk i).frame.area.left))

-- A call that writes in a window changes no place of any window, except places that are also the window's own.
abbrev pub WritingStaysInside : Type 0
WritingStaysInside =
    (desk : DeskView) (i first end : ℕ) (f : (ℕ → ℕ → CellView) → ℕ → ℕ → CellView) (k r c : ℕ) → IsDesk desk → i < length desk.windows → k < length desk.windows
    → r < (window_at desk k).frame.area.rows → c < (window_at desk k).frame.area.columns
    → ((window_at desk k).frame.surface ≡ (window_at desk i).frame.surface → is_inside (window_at desk i).frame.area ((window_at desk k).frame.area.top + r) ((window_at desk k).frame.area.left + c) ≡ false)
    → at (write desk i first end f) k r c ≡ at desk k r c

-- wresize(): every other window stays as it is, with all its cells, and a subwindow at another size changes no cell.
pub record ResizingKeepsOthers : Type 0 where
  pub others : (desk : DeskView) (win rows columns k : ℕ) → IsDesk desk → k < length desk.windows → (window_at desk k).frame.number ≢ win
      → (window_at (resize_window_call desk win rows columns).0 k ≡ window_at desk k) × ((r c : ℕ) → at (resize_window_call desk win rows columns).0 k r c ≡ at desk k r c)
  pub subwindow : (desk : DeskView) (win rows columns i parent : ℕ) → index_of desk win ≡ Ok i → (window_at desk i).frame.parent ≡ Some parent
      → (resize_window_call desk win rows columns).0.surfaces ≡ desk.surfaces

-- mvwin(), mvderwin(): no cell of any surface changes.
pub record MovingChangesNoCell : Type 0 where
  pub window : (desk : DeskView) (win row column : ℕ) → (move_window_call desk win row column).0.surfaces ≡ desk.surfaces
  pub derived : (desk : DeskView) (win row column : ℕ) → (move_derived_call desk win row column).0.surfaces ≡ desk.surfaces
