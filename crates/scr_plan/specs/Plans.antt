-- What the operations of an update must do, however they are chosen. curs_refresh(3X), doupdate(); X/Open Curses Issue
-- 7, doupdate().
use Rattle.std.specs.Prelude.{ℕ, ◌≡◌, ◌≤◌, ◌+◌, ◌*◌, ◌&&◌, ◌||◌, not, true, false, List, [], ◌∷◌, ◌++◌, length, Some, if◌then◌else◌}
use Rattle.scr_cells.specs.Grids.{IsGrid}
use Rattle.scr_cells.specs.PictureViews.{PictureView, IsPicture}
use Rattle.scr_virtual.specs.Laws.{HoldsChanges}
use Rattle.scr_virtual.specs.VirtualViews.{VirtualView, settled}
use Rattle.scr_term.specs.declared.operations.operation.Op.{Op}
use Rattle.scr_term.specs.declared.operations.operation.Op.TheVariants.{Clear, Reset}
use Rattle.scr_term.specs.declared.operations.capability.Capability.TheVariants.{Sgr0}
use Rattle.scr_term.specs.Operations.Profiles.{ProfileView, IsProfile, abilities, is_there}
use Rattle.scr_term.specs.Operations.States.{TerminalState, IsState}
use Rattle.scr_term.specs.Operations.Steps.{runs}
use Rattle.scr_term.specs.Operations.Texts.{all_bytes}
use Rattle.scr_memory.specs.Memories.{Agrees, MayBe, MemoryView, all_followed, disturbed, forgotten, is_known, is_nothing_known, is_placed, unknown}
use Rattle.scr_plan.specs.Repaints.{IsUpToDate, differing, is_none_left, joined_of, plain_of, sure_of}
use Rattle.scr_plan.specs.Scratch.{Fits, RunsToShow, resets, scratch_of}

-- After attributes off and a clear, all is known, whatever was known before and whatever follows; so it is after
-- scratch. From every state in which they are defined, the state after them agrees with the memory.
pub record PlansAreRemembered : Type 0 where
  pub cleared : (profile : ProfileView) → IsProfile profile → (memory : MemoryView) → MayBe (abilities profile) memory → (new : TerminalState) (ops : List Op)
      → runs profile memory.state (resets profile ++ Clear ∷ [] ++ ops) ≡ Some new → is_known (all_followed profile (resets profile ++ Clear ∷ [] ++ ops) memory) ≡ true
  pub agrees : (profile : ProfileView) → IsProfile profile → (memory : MemoryView) → MayBe (abilities profile) memory → (old new : TerminalState) → IsState (abilities profile) old → (ops : List Op)
      → runs profile old (resets profile ++ Clear ∷ [] ++ ops) ≡ Some new → Agrees (abilities profile) (all_followed profile (resets profile ++ Clear ∷ [] ++ ops) memory) new
  pub scratch : (profile : ProfileView) → IsProfile profile → (picture : PictureView) → IsPicture picture → Fits profile picture
      → (memory : MemoryView) → MayBe (abilities profile) memory → is_known (all_followed profile (scratch_of profile picture) memory) ≡ true

-- The states that an update may start from: all of the profile if the whole screen is to be painted anew; otherwise
-- those that agree with the memory.
pub record MayStart (profile : ProfileView) (memory : MemoryView) (virtual : VirtualView) (old : TerminalState) : Type 0 where
  pub state : IsState (abilities profile) old
  pub agrees : virtual.repaint ≡ false → Agrees (abilities profile) memory old

-- What an update sends at most as many bytes as: the joined repaint if all is known and no repaint was requested;
-- otherwise scratch.
abbrev pub bound_of : ProfileView → MemoryView → VirtualView → List Op
bound_of profile memory virtual =
    if is_known memory && not virtual.repaint then joined_of profile memory virtual.picture else scratch_of profile virtual.picture

-- The operations begin with this one.
abbrev pub Begins : Op → List Op → Type 0
Begins op ops = (more : List Op) × (ops ≡ op ∷ more)

-- A plan: operations that are defined and show the picture, from every state that an update may start from. If the
-- remembered state is one of the profile, everything is known after them, and what is remembered agrees with the
-- terminal. If nothing is known, or the whole screen is to be painted anew, they begin by turning attributes off and
-- making the colours default, where the terminal can. They are at most 12 for each place, and 4 more, and their bytes
-- are within the bound.
pub record IsPlan (profile : ProfileView) (memory : MemoryView) (virtual : VirtualView) (ops : List Op) : Type 0 where
  pub shows : (old : TerminalState) → MayStart profile memory virtual old → RunsToShow profile old ops virtual.picture
  pub agrees : MayBe (abilities profile) memory → (old new : TerminalState) → MayStart profile memory virtual old → runs profile old ops ≡ Some new → Agrees (abilities profile) (all_followed profile ops memory) new
  pub known : MayBe (abilities profile) memory → is_known (all_followed profile ops memory) ≡ true
  pub begins : (virtual.repaint || is_nothing_known memory) ≡ true → is_there profile Sgr0 ≡ true → Begins Reset ops
  pub few : length ops ≤ virtual.picture.rows * virtual.picture.columns * 12 + 4
  pub cheap : length (all_bytes profile ops) ≤ length (all_bytes profile (bound_of profile memory virtual))

-- The sure repaint is a plan.
abbrev pub PlansAreMade : Type 0
PlansAreMade =
    (profile : ProfileView) → IsProfile profile → (virtual : VirtualView) → IsPicture virtual.picture → Fits profile virtual.picture
    → (memory : MemoryView) → IsGrid profile.rows profile.columns memory.state.grid → IsPlan profile memory virtual (sure_of profile memory virtual)

-- A plan has no more bytes than scratch. If all is known and no repaint was requested, it has no more than the joined
-- and the plain repaint, and none if no place differs and the cursor is where it should be.
pub record PlanIsCheap : Type 0 where
  pub scratch : (profile : ProfileView) (memory : MemoryView) (virtual : VirtualView) (ops : List Op) → IsPlan profile memory virtual ops
      → length (all_bytes profile ops) ≤ length (all_bytes profile (scratch_of profile virtual.picture))
  pub joined : (profile : ProfileView) (memory : MemoryView) (virtual : VirtualView) (ops : List Op) → IsPlan profile memory virtual ops → is_known memory ≡ true → virtual.repaint ≡ false
      → length (all_bytes profile ops) ≤ length (all_bytes profile (joined_of profile memory virtual.picture))
  pub plain : (profile : ProfileView) (memory : MemoryView) (virtual : VirtualView) (ops : List Op) → IsPlan profile memory virtual ops → is_known memory ≡ true → virtual.repaint ≡ false
      → length (all_bytes profile ops) ≤ length (all_bytes profile (plain_of profile memory virtual.picture))
  pub none : (profile : ProfileView) (memory : MemoryView) (virtual : VirtualView) (ops : List Op) → IsPlan profile memory virtual ops → is_known memory ≡ true → virtual.repaint ≡ false
      → is_none_left (differing profile virtual.picture memory) ≡ true → is_placed memory virtual.picture.wish ≡ true → all_bytes profile ops ≡ []

-- What keeps the memory up to date: everything that happens to virtual screen and memory between updates, and a
-- successful update, after which known rows show the picture in every column.
pub record UpToDateLaws : Type 0 where
  pub at_first : (profile : ProfileView) (rows columns : ℕ) (virtual : VirtualView) → IsUpToDate profile (unknown rows columns) virtual
  pub forgets : (profile : ProfileView) (memory : MemoryView) (virtual : VirtualView) → IsUpToDate profile (forgotten memory) virtual
  pub disturbs : (profile : ProfileView) (memory : MemoryView) (virtual : VirtualView) (first n : ℕ) → IsUpToDate profile memory virtual → IsUpToDate profile (disturbed first n memory) virtual
  pub holds : (profile : ProfileView) (memory : MemoryView) (old new : VirtualView) → HoldsChanges old new → new.picture.rows ≡ old.picture.rows → new.picture.columns ≡ old.picture.columns
      → IsUpToDate profile memory old → IsUpToDate profile memory new
  pub follows : (profile : ProfileView) (memory : MemoryView) (virtual : VirtualView) (ops : List Op) → MayBe (abilities profile) memory → IsPicture virtual.picture
      → IsPlan profile memory virtual ops → IsUpToDate profile (all_followed profile ops memory) (settled virtual)
