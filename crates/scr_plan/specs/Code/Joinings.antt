-- Making the joined repaint, row by row.
use Rattle.std.specs.Prelude.{ℕ, suc, zero, ◌≡◌, ◌+◌, ◌-◌, ◌^◌, min, Bool, false, true, ◌<◌, ◌≤◌, List, All, drop, take, ◌++◌, length, Option, Some, None}
use Rattle.scr_cells.specs.LookViews.{LookView}
use Rattle.scr_cells.specs.PenViews.{PenView}
use Rattle.scr_cells.specs.PictureViews.{PictureView}
use Rattle.scr_term.specs.declared.operations.operation.Op.{Op}
use Rattle.scr_term.specs.declared.operations.operation.Spot.{Spot}
use Rattle.scr_term.specs.declared.operations.operation.Spot.TheVariants.{At}
use Rattle.scr_term.specs.Operations.Profiles.{ProfileView, abilities}
use Rattle.scr_term.specs.Operations.States.{TerminalState, IsState}
use Rattle.scr_term.specs.Operations.Steps.{runs}
use Rattle.scr_term.specs.Operations.Texts.{all_bytes, bytes_of, has, put_of}
use Rattle.scr_cells.specs.Showing.{shown_in}
use Rattle.scr_memory.specs.Memories.{MemoryView, is_known_row}
use Rattle.scr_plan.specs.Repaints.{erased_column, joined_place, look_in, without_idle}
use Rattle.scr_plan.specs.Scratch.{look_at}
use Rattle.scr_plan.specs.declared.drafts.Draft.{Draft}

-- a row is known to show these looks
pub record ShowsRow (memory : MemoryView) (row : ℕ) (before : Option (List LookView)) : Type 0 where
  pub known : is_known_row memory row ≡ true
  pub looks : (c : ℕ) → look_in memory (row, c) ≡ shown_in before c

-- a count that stays at the greatest that is counted
abbrev pub counted_up : ℕ → ℕ
counted_up n = min n (2 ^ 64 - 1)

-- From this state these operations lead to one with this spot and this pen; counted and, where they are kept, kept after the first ones are
-- those of them that change something. Where none is kept, the first ones are left.
pub record IsJoining (profile : ProfileView) (stores : Bool) (first : List Op) (start : TerminalState) (all : List Op) (joining : Draft) : Type 0 where
  pub now : TerminalState
  pub run : runs profile start all ≡ Some now
  pub state : IsState (abilities profile) now
  pub spot : now.spot ≡ joining.spot
  pub pen : now.pen ≡ joining.pen
  pub bytes : joining.bytes ≡ counted_up (length (all_bytes profile (without_idle profile start all)))
  pub stored : joining.keeps ≡ stores
  pub ops : stores ≡ true → joining.ops.items ≡ first ++ without_idle profile start all
  pub left : stores ≡ false → joining.ops.items ≡ first

-- these operations more, from wherever the others came
abbrev pub Continues : ProfileView → Draft → Draft → List Op → Type 0
Continues profile old new more = (stores : Bool) (first : List Op) (start : TerminalState) (all : List Op) → IsJoining profile stores first start all old → IsJoining profile stores first start (all ++ more) new

-- No more is counted than what these operations more would be counted with, from wherever the others came. Where none is kept, the first ones
-- are left.
abbrev pub CountsAtMost : ProfileView → Draft → Draft → List Op → Type 0
CountsAtMost profile old new more = (stores : Bool) (first : List Op) (start : TerminalState) (all : List Op) → IsJoining profile stores first start all old
    → (new.bytes ≤ counted_up (length (all_bytes profile (without_idle profile start (all ++ more))))) × (stores ≡ false → new.ops.items ≡ first)

-- the operations from one on are counted, and kept where that is asked for, else dropped; they lead to this spot and this pen
pub record IsCounted (profile : ProfileView) (old new : Draft) (begun : ℕ) (spot : Spot) (pen : PenView) : Type 0 where
  pub bytes : All (λ op. has profile op ≡ true) (drop begun old.ops.items) → new.bytes ≡ counted_up (old.bytes + length (all_bytes profile (drop begun old.ops.items)))
  pub keeps : new.keeps ≡ old.keeps
  pub ops : old.keeps ≡ true → new.ops.items ≡ old.ops.items
  pub dropped : old.keeps ≡ false → new.ops.items ≡ take begun old.ops.items
  pub spot_is : new.spot ≡ spot
  pub pen_is : new.pen ≡ pen

-- a draft with these operations more, kept where that is asked for, and counted, and with this spot and this pen
pub record IsAdded (profile : ProfileView) (old new : Draft) (more : List Op) (spot : Spot) (pen : PenView) : Type 0 where
  pub keeps : new.keeps ≡ old.keeps
  pub ops : old.keeps ≡ true → new.ops.items ≡ old.ops.items ++ more
  pub left : old.keeps ≡ false → new.ops.items ≡ old.ops.items
  pub bytes : All (λ op. has profile op ≡ true) more → new.bytes ≡ counted_up (old.bytes + length (all_bytes profile more))
  pub spot_is : new.spot ≡ spot
  pub pen_is : new.pen ≡ pen

-- after a place that was painted the cursor is in the next one, and the pen is still on
abbrev pub IsAfter : ℕ → Draft → ℕ → ℕ → Option PenView → Type 0
IsAfter columns joining row column None = Unit {0}
IsAfter columns joining row column (Some pen) = (joining.pen ≡ pen) × (column < columns → joining.spot ≡ At row column)

-- a place of the joined repaint
abbrev pub joined_at : ProfileView → PictureView → MemoryView → ℕ × ℕ → List Op
joined_at profile picture memory place = joined_place profile picture memory (erased_column profile picture memory place.0) place.0 place.1

-- how many bytes the character has that is seen in a place, and those that are seen in n places of a row
abbrev pub place_bytes : ProfileView → PictureView → ℕ → ℕ → ℕ
place_bytes profile picture r c = length (bytes_of profile (put_of (look_at profile picture (r, c)).character))

abbrev pub run_bytes : ProfileView → PictureView → ℕ → ℕ → ℕ → ℕ
run_bytes profile picture r from zero = 0
run_bytes profile picture r from (suc n) = run_bytes profile picture r from n + place_bytes profile picture r (from + n)
