-- What is remembered where a plan begins, and the plans that need no check.
use Rattle.std.proofs.Common.{◌≡◌, ℕ, ◌≤◌, All, length, ◌+◌, ◌&&◌, ◌||◌, not, Bool, true, false, ◌∙◌, ap, subst, arith, List, [], ◌∷◌, ◌++◌, if◌then◌else◌}
use Rattle.scr_cells.specs.Grids.{IsGrid}
use Rattle.scr_cells.specs.PictureViews.{PictureView}
use Rattle.scr_virtual.specs.VirtualViews.{VirtualView}
use Rattle.scr_term.specs.declared.operations.capability.Capability.TheVariants.{Sgr0}
use Rattle.scr_term.specs.declared.operations.operation.Op.{Op}
use Rattle.scr_term.specs.declared.operations.operation.Op.TheVariants.{Clear, Reset}
use Rattle.scr_term.specs.Operations.Laws.{BlankLaws, ProfilesHave, RunLaws}
use Rattle.scr_term.specs.Operations.Profiles.{IsProfile, ProfileView, abilities, is_there}
use Rattle.scr_term.specs.Operations.States.{IsShownPen, IsState, TerminalState, blank_state}
use Rattle.scr_memory.specs.Memories.{IsMemory, MemoryView, is_known, is_nothing_known}
use Rattle.scr_term.specs.Operations.Texts.{all_bytes, has}
use Rattle.scr_plan.proofs.JoinedPriceLaws.{price_is}
use Rattle.scr_plan.proofs.ScratchLaws.{cleared_run}
use Rattle.scr_plan.specs.Code.Joinings.{counted_up}
use Rattle.scr_plan.specs.Plans.{Begins, IsPlan}
use Rattle.scr_plan.specs.Repaints.{IsSizeOf}
use Rattle.scr_plan.specs.Scratch.{Fits, resets}

-- a state that is remembered is one of the profile, where its pen can be shown
pub state_of : (profile : ProfileView) (memory : MemoryView) → IsMemory memory → memory.rows ≡ profile.rows → memory.columns ≡ profile.columns → IsShownPen (abilities profile) memory.state.pen → IsState (abilities profile) memory.state
state_of profile memory is rows columns shown = grind arith

-- what is remembered has the screen's size
pub whole_of : (profile : ProfileView) (picture : PictureView) (memory : MemoryView) → IsMemory memory → IsSizeOf picture memory → Fits profile picture → IsGrid profile.rows profile.columns memory.state.grid
whole_of profile picture memory is size fits = rw (← fits.rows, ← fits.columns, ← size.rows, ← size.columns) is.state.whole

-- if all is known, something is
pub not_nothing : {R : Type 0} (memory : MemoryView) (repaint : Bool) → (is_known memory && not repaint) ≡ true → (repaint || is_nothing_known memory) ≡ true → R
not_nothing memory repaint due e = grind arith

-- where all is known and no terminal of the profile can have the pen, no state agrees
pub never_plan : (profile : ProfileView) (memory : MemoryView) (virtual : VirtualView) → (is_known memory && not virtual.repaint) ≡ true → (IsShownPen (abilities profile) memory.state.pen → ⊥) → IsPlan profile memory virtual []
never_plan profile memory virtual due hidden =
    let calm : virtual.repaint ≡ false = grind arith in
    let pen : memory.known_pen ≡ true = grind arith in
    record {
      shows = λ old start. absurd (hidden (subst (IsShownPen (abilities profile)) ((start.agrees calm).pen pen) (start.agrees calm).is_state.pen));
      agrees = λ may old new start run. absurd (hidden may.state.pen);
      known = λ may. absurd (hidden may.state.pen);
      begins = λ unknown there. not_nothing memory virtual.repaint due unknown;
      few = omega arith;
      cheap = omega arith;
    }

-- what begins by resetting
pub begins_with : (profile : ProfileView) (ops more : List Op) → is_there profile Sgr0 ≡ true → ops ≡ resets profile ++ more → Begins Reset ops
begins_with profile ops more there is = (more, is ∙ ap (λ b. (if b then Reset ∷ [] else []) ++ more) there)

-- what clears the screen, and what is counted behind it, have no more bytes than both together
pub anew_counted : RunLaws → BlankLaws → ProfilesHave → (profile : ProfileView) → IsProfile profile → (more : List Op) (clearing rest : ℕ)
    → (All (λ op. has profile op ≡ true) (resets profile ++ Clear ∷ []) → clearing ≡ counted_up (length (all_bytes profile (resets profile ++ Clear ∷ []))))
    → rest ≡ counted_up (length (all_bytes profile more)) → counted_up (clearing + rest) ≤ length (all_bytes profile (resets profile ++ Clear ∷ [] ++ more))
anew_counted laws blanks have profile p more clearing rest first second =
    let old : TerminalState = blank_state profile.rows profile.columns in
    let run = cleared_run laws profile (have profile p) old (blanks.state profile p).pen in
    omega (arith, first (laws.had profile old old (resets profile ++ Clear ∷ []) run), second, (price_is laws profile).joined (resets profile ++ Clear ∷ []) more)
