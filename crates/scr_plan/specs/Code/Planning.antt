-- Which columns a plan looks at, and which rows differ there.
use Rattle.std.specs.Prelude.{ℕ, ◌≡◌, ◌+◌, ◌<◌, ◌≤◌, ◌⊎◌, ltb, false, true, zero, suc, length, List, Option, None, slice_index_or, if◌then◌else◌}
use Rattle.scr_cells.specs.PictureViews.{PictureView}
use Rattle.scr_term.specs.Operations.Profiles.{ProfileView}
use Rattle.scr_virtual.specs.VirtualViews.{VirtualView, altered_at, range_at}
use Rattle.scr_memory.specs.Memories.{MemoryView}
use Rattle.scr_planner.specs.declared.rows.RowChange.{RowChange}
use Rattle.scr_plan.specs.Repaints.{differs}
use Rattle.scr_plan.specs.declared.looked.Looked.{Looked}
use Rattle.scr_plan.specs.declared.looked.Looked.TheVariants.{Altered, Changed}

-- the columns of a row that are looked at
abbrev pub range_by : Looked → VirtualView → ℕ → Option (ℕ × ℕ)
range_by Changed = range_at
range_by Altered = altered_at

-- no row has any but those from a first up to an end
abbrev pub AreNoneByOutside : Looked → VirtualView → ℕ → ℕ → Type 0
AreNoneByOutside by virtual first end = (r : ℕ) → (r < first) ⊎ (end ≤ r) → r < virtual.picture.rows → range_by by virtual r ≡ None

-- no place of a row differs
abbrev pub IsSameRow : ProfileView → PictureView → MemoryView → ℕ → Type 0
IsSameRow profile picture memory r = (c : ℕ) → c < picture.columns → differs profile picture memory (r, c) ≡ false

-- a row differs in the first of these columns, and nowhere outside them
pub record IsChange (profile : ProfileView) (picture : PictureView) (memory : MemoryView) (change : RowChange) : Type 0 where
  pub row : change.row < picture.rows
  pub some : change.start < change.end
  pub inside : change.end ≤ picture.columns
  pub first : differs profile picture memory (change.row, change.start) ≡ true
  pub outside : (c : ℕ) → (c < change.start) ⊎ (change.end ≤ c) → c < picture.columns → differs profile picture memory (change.row, c) ≡ false

-- the change with this number
abbrev pub change_at : List RowChange → ℕ → RowChange
change_at changes k = slice_index_or changes k (record { row = 0; start = 0; end = 0 })

-- the row behind that of the change before the one with this number; the first row, for the first change
abbrev pub row_after : List RowChange → ℕ → ℕ
row_after changes zero = 0
row_after changes (suc k) = (change_at changes k).row + 1

-- the row of the change with this number; an end, if there is none
abbrev pub row_at : List RowChange → ℕ → ℕ → ℕ
row_at changes end k = if ltb k (length changes) then (change_at changes k).row else end

-- these are the rows before an end that differ, from the top: no row between two of them does
pub record AreChanges (profile : ProfileView) (picture : PictureView) (memory : MemoryView) (changes : List RowChange) (end : ℕ) : Type 0 where
  pub each : (k : ℕ) → k < length changes → IsChange profile picture memory (change_at changes k)
  pub order : (k : ℕ) → k < length changes → row_after changes k ≤ (change_at changes k).row
  pub same : (k r : ℕ) → k ≤ length changes → row_after changes k ≤ r → r < row_at changes end k → IsSameRow profile picture memory r
  pub last : row_after changes (length changes) ≤ end
