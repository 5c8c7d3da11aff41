-- Laws of virtual screens: what follows from the definitions of the calls, as a check on them.
use Rattle.std.specs.Prelude.{ℕ, Bool, true, false, ◌≡◌, ◌+◌, ◌-◌, ◌<◌, ◌≤◌, ◌⊎◌, Some, None, Option, Ok, slice_index_or}
use Rattle.scr_cells.specs.CellViews.{CellView, blank_cell}
use Rattle.scr_cells.specs.Grids.{grid_at}
use Rattle.scr_cells.specs.LookViews.{LookView, seen}
use Rattle.scr_cells.specs.declared.charsets.Charset.{Charset}
use Rattle.scr_windows.specs.DeskViews.{DeskView, window_at}
use Rattle.scr_windows.specs.Changes.{index_of}
use Rattle.scr_virtual.specs.Ranges.{in_range}
use Rattle.scr_virtual.specs.VirtualViews.{IsVirtual, VirtualView, altered_at, marked_rows, range_at, settled}
use Rattle.scr_virtual.specs.Pairs.{set_pair_of_call}
use Rattle.scr_virtual.specs.Taking.{take_pad_call, take_window_call}

-- The picture's cell in row r and column c.
abbrev pub cell_at : VirtualView → ℕ → ℕ → CellView
cell_at virtual r c = grid_at blank_cell virtual.picture.lines r c

-- What a terminal with this charset that shows these attributes, and colours or none, shows of that cell.
abbrev pub seen_at : Charset → ℕ → Bool → VirtualView → ℕ → ℕ → LookView
seen_at charset shown colours virtual r c = seen charset shown colours virtual.picture.pairs (cell_at virtual r c)

-- No range loses a column, and a place outside the new ranges has its cell and look as before.
pub record HoldsIn (ranges : VirtualView → ℕ → Option (ℕ × ℕ)) (old new : VirtualView) : Type 0 where
  pub grows : (r c : ℕ) → in_range (ranges old r) c ≡ true → in_range (ranges new r) c ≡ true
  pub cells : (r c : ℕ) → r < old.picture.rows → c < old.picture.columns → in_range (ranges new r) c ≡ false → cell_at new r c ≡ cell_at old r c
  pub holds : (charset : Charset) (shown : ℕ) (colours : Bool) (r c : ℕ) → r < old.picture.rows → c < old.picture.columns → in_range (ranges new r) c ≡ false
      → seen_at charset shown colours new r c ≡ seen_at charset shown colours old r c

-- This holds of both kinds of range: columns that may have changed, and columns that may look different.
pub record HoldsChanges (old new : VirtualView) : Type 0 where
  pub changed : HoldsIn range_at old new
  pub altered : HoldsIn altered_at old new

-- The ranges hold everything that changed, after each call.
pub record RangesHoldChanges : Type 0 where
  pub window : (virtual : VirtualView) (desk : DeskView) (win : ℕ) → IsVirtual virtual → HoldsChanges virtual (take_window_call virtual desk win).0.0
  pub pad : (virtual : VirtualView) (desk : DeskView) (win row column top left bottom right : ℕ) → IsVirtual virtual → HoldsChanges virtual (take_pad_call virtual desk win row column top left bottom right).0.0
  pub pair : (virtual : VirtualView) (pair : ℕ) (foreground background : Option ℕ) → IsVirtual virtual → HoldsChanges virtual (set_pair_of_call virtual pair foreground background).0
  pub mark : (virtual : VirtualView) (row n : ℕ) → IsVirtual virtual → HoldsChanges virtual (marked_rows row n virtual)
  -- A settled screen has no ranges.
  pub settle : (virtual : VirtualView) (r : ℕ) → (range_at (settled virtual) r ≡ None) × (altered_at (settled virtual) r ≡ None)

-- The place is outside the area with this corner and size.
abbrev pub IsOutside : ℕ → ℕ → ℕ → ℕ → ℕ → ℕ → Type 0
IsOutside top left rows columns r c = ((r < top) ⊎ (top + rows ≤ r)) ⊎ ((c < left) ⊎ (left + columns ≤ c))

-- A place of the picture outside the window, or outside the pad's rectangle, keeps its cell.
pub record OutsideStays : Type 0 where
  pub window : (virtual : VirtualView) (desk : DeskView) (win i : ℕ) (place : ℕ × ℕ) (r c : ℕ) → index_of desk win ≡ Ok i → (window_at desk i).frame.origin ≡ Some place
      → r < virtual.picture.rows → c < virtual.picture.columns → IsOutside place.0 place.1 (window_at desk i).frame.area.rows (window_at desk i).frame.area.columns r c
      → cell_at (take_window_call virtual desk win).0.0 r c ≡ cell_at virtual r c
  pub pad : (virtual : VirtualView) (desk : DeskView) (win row column top left bottom right r c : ℕ) → r < virtual.picture.rows → c < virtual.picture.columns
      → IsOutside top left (bottom + 1 - top) (right + 1 - left) r c → cell_at (take_pad_call virtual desk win row column top left bottom right).0.0 r c ≡ cell_at virtual r c

-- If no line of the window is touched, copying it changes no cell of the picture.
abbrev pub UntouchedChangesNothing : Type 0
UntouchedChangesNothing =
    (virtual : VirtualView) (desk : DeskView) (win i : ℕ) → IsVirtual virtual → index_of desk win ≡ Ok i → ((line : ℕ) → slice_index_or (window_at desk i).touched line false ≡ false)
    → (take_window_call virtual desk win).0.0.picture.lines ≡ virtual.picture.lines

-- The sizes of picture and desk are the same.
pub record SameSizes (old new : VirtualView × DeskView) : Type 0 where
  pub rows : new.0.picture.rows ≡ old.0.picture.rows
  pub columns : new.0.picture.columns ≡ old.0.picture.columns
  pub desk_rows : new.1.rows ≡ old.1.rows
  pub desk_columns : new.1.columns ≡ old.1.columns

-- No call changes these sizes.
pub record SizesStay : Type 0 where
  pub window : (virtual : VirtualView) (desk : DeskView) (win : ℕ) → SameSizes (virtual, desk) (take_window_call virtual desk win).0
  pub pad : (virtual : VirtualView) (desk : DeskView) (win row column top left bottom right : ℕ) → SameSizes (virtual, desk) (take_pad_call virtual desk win row column top left bottom right).0
  pub pair : (virtual : VirtualView) (desk : DeskView) (pair : ℕ) (foreground background : Option ℕ) → SameSizes (virtual, desk) ((set_pair_of_call virtual pair foreground background).0, desk)
  pub mark : (virtual : VirtualView) (desk : DeskView) (row n : ℕ) → SameSizes (virtual, desk) (marked_rows row n virtual, desk)
