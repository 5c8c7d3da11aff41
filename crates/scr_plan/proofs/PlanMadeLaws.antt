-- The sure repaint is all that an update wants.
use Rattle.std.proofs.Common.{◌≡◌, ◌≤◌, append_assoc, ◌&&◌, not, Bool, true, false, refl, subst, arith, List, [], ◌∷◌, ◌++◌, length, Result, IfOk, if◌then◌else◌}
use Rattle.scr_cells.specs.Grids.{IsGrid}
use Rattle.scr_cells.specs.PictureViews.{IsPicture}
use Rattle.scr_cells.specs.declared.NoMemory.{NoMemory}
use Rattle.scr_virtual.specs.VirtualViews.{VirtualView}
use Rattle.scr_term.specs.declared.operations.operation.Op.{Op}
use Rattle.scr_term.specs.declared.operations.operation.Op.TheVariants.{Clear}
use Rattle.scr_term.specs.Operations.States.{blank_state}
use Rattle.scr_term.specs.Operations.Profiles.{ProfileView, IsProfile, abilities}
use Rattle.scr_term.specs.Operations.Texts.{all_bytes}
use Rattle.scr_plan.proofs.JoinedPriceLaws.{anew_less, count_fewer, count_is, joined_less, plain_less}
use Rattle.scr_plan.proofs.RememberedPlanLaws.{agrees_itself}
use Rattle.scr_plan.proofs.PlanLaws.{begins_with, not_nothing}
use Rattle.scr_memory.specs.Memories.{MemoryView, is_known}
use Rattle.scr_memory.specs.MemoryRuns.{MemoryRuns}
use Rattle.scr_plan.specs.Plans.{IsPlan, PlanIsCheap, PlansAreMade, PlansAreRemembered}
use Rattle.scr_plan.specs.Repaints.{JoinedIsCheap, JoinedShows, anew_of, cleared, joined_of, joined_places, without_idle}
use Rattle.scr_plan.specs.Scratch.{Fits, ScratchIsBounded, places_cursor, resets}

-- where all is known and the screen is not to be painted anew, the joined repaint
joined_plan : JoinedShows → ScratchIsBounded → MemoryRuns → (profile : ProfileView) → IsProfile profile → (virtual : VirtualView) → IsPicture virtual.picture → Fits profile virtual.picture
    → (memory : MemoryView) → IsGrid profile.rows profile.columns memory.state.grid → (due : (is_known memory && not virtual.repaint) ≡ true) → IsPlan profile memory virtual (joined_of profile memory virtual.picture)
joined_plan shows bounded runs profile p virtual k fits memory whole due = record {
  shows = λ old start. shows.joined profile p virtual.picture k fits memory whole old (start.agrees (calm virtual.repaint due)) (known virtual.repaint due);
  agrees = λ may old new start run. runs.follows profile p memory may old new (joined_of profile memory virtual.picture) (start.agrees (calm virtual.repaint due)) run;
  known = λ may.
      let agrees = agrees_itself (abilities profile) memory may in
      let run = shows.joined profile p virtual.picture k fits memory whole memory.state agrees (known virtual.repaint due) in
      runs.stays_known profile p memory may memory.state run.new (joined_of profile memory virtual.picture) agrees run.run (known virtual.repaint due);
  begins = λ unknown there. not_nothing memory virtual.repaint due unknown;
  few = omega (arith, joined_less length profile memory virtual.picture (count_fewer profile virtual.picture memory), plain_less length count_is profile memory virtual.picture, bounded profile virtual.picture);
  cheap = rw due (omega arith);
}
  where
    known : (repaint : Bool) → (is_known memory && not repaint) ≡ true → is_known memory ≡ true
    known repaint e = grind arith

    calm : (repaint : Bool) → (is_known memory && not repaint) ≡ true → repaint ≡ false
    calm repaint e = grind arith

-- else what paints the screen anew
anew_plan : JoinedShows → JoinedIsCheap → PlansAreRemembered → ScratchIsBounded → (profile : ProfileView) → IsProfile profile → (virtual : VirtualView) → IsPicture virtual.picture → Fits profile virtual.picture
    → (memory : MemoryView) → (is_known memory && not virtual.repaint) ≡ false → IsPlan profile memory virtual (anew_of profile virtual.picture)
anew_plan shows cheap remembered bounded profile p virtual k fits memory due = record {
  shows = λ old start. shows.anew profile p virtual.picture k fits old start.state;
  agrees = λ may old new start run. remembered.agrees profile p memory may old new start.state _ run;
  known = λ may.
      let run = shows.anew profile p virtual.picture k fits memory.state may.state in
      remembered.cleared profile p memory may run.new _ run.run;
  few = omega (arith, anew_less length profile virtual.picture (count_fewer profile virtual.picture (cleared virtual.picture)), bounded profile virtual.picture);
  begins = λ unknown there.
      let more : List Op = without_idle profile (blank_state profile.rows profile.columns) (joined_places profile virtual.picture (cleared virtual.picture) ++ resets profile ++ places_cursor virtual.picture.wish) in
      begins_with profile (anew_of profile virtual.picture) (Clear ∷ [] ++ more) there (append_assoc (resets profile) (Clear ∷ []) more);
  cheap = rw due (cheap.anew profile virtual.picture);
}

pub plans_are_made : JoinedShows → JoinedIsCheap → PlansAreRemembered → ScratchIsBounded → MemoryRuns → PlansAreMade
plans_are_made shows cheap remembered bounded runs profile p virtual k fits memory whole = by (is_known memory && not virtual.repaint) refl
  where
    by : (due : Bool) → (is_known memory && not virtual.repaint) ≡ due → IsPlan profile memory virtual (if due then joined_of profile memory virtual.picture else anew_of profile virtual.picture)
    by true due = joined_plan shows bounded runs profile p virtual k fits memory whole due
    by false due = anew_plan shows cheap remembered bounded profile p virtual k fits memory due

pub plan_is_cheap : JoinedIsCheap → PlanIsCheap
plan_is_cheap cheap = record {
  scratch = λ profile memory virtual ops plan. grind (arith, plan.cheap, cheap.joined profile memory virtual.picture, cheap.plain profile memory virtual.picture);
  joined = joined;
  plain = λ profile memory virtual ops plan known calm. omega (arith, joined profile memory virtual ops plan known calm, cheap.joined profile memory virtual.picture);
  none = λ profile memory virtual ops plan known calm none placed.
      empty (all_bytes profile ops) (subst (λ joined. length (all_bytes profile ops) ≤ length (all_bytes profile joined)) (cheap.none profile memory virtual.picture none placed) (joined profile memory virtual ops plan known calm));
}
  where
    joined : (profile : ProfileView) (memory : MemoryView) (virtual : VirtualView) (ops : List Op) → IsPlan profile memory virtual ops → is_known memory ≡ true → virtual.repaint ≡ false
        → length (all_bytes profile ops) ≤ length (all_bytes profile (joined_of profile memory virtual.picture))
    joined profile memory virtual ops plan known calm = grind (arith, plan.cheap)

    empty : {A : Type 0} (xs : List A) → length xs ≤ 0 → xs ≡ []
    empty [] h = refl
    empty (x ∷ xs) h = absurd (omega arith)

-- ---- answers

pub sure_plans : PlansAreMade → (profile : ProfileView) → IsProfile profile → (virtual : VirtualView) → IsPicture virtual.picture → Fits profile virtual.picture → (memory : MemoryView) → IsGrid profile.rows profile.columns memory.state.grid → (due : Bool) → (is_known memory && not virtual.repaint) ≡ due
    → (r : Result (List Op) NoMemory) → IfOk r (λ ops. ops ≡ (if due then joined_of profile memory virtual.picture else anew_of profile virtual.picture)) → IfOk r (IsPlan profile memory virtual)
sure_plans made profile p virtual k fits memory whole due is r same = grind arith
