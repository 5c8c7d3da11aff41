-- Operations that need only what is known are a plan where they show the picture; and so are those that clear the screen first.
use Rattle.std.proofs.Common.{◌≡◌, ℕ, ◌+◌, ◌*◌, ◌<◌, ◌≤◌, ◌&&◌, ◌||◌, not, Bool, true, false, refl, sym, ◌∙◌, ap, arith, subst, append_assoc, List, [], ◌∷◌, ◌++◌, length, get_or, Some, IfSome, if◌then◌else◌}
use Rattle.std.specs.Option.{is_some}
use Rattle.scr_cells.specs.Grids.{GridLaws, IsGrid, grid_at}
use Rattle.scr_cells.specs.LookViews.{LookView, blank}
use Rattle.scr_cells.specs.PictureViews.{IsPicture}
use Rattle.scr_virtual.specs.VirtualViews.{VirtualView}
use Rattle.scr_term.specs.declared.operations.operation.Op.{Op}
use Rattle.scr_term.specs.declared.operations.operation.Op.TheVariants.{Home, Clear, Reset}
use Rattle.scr_term.specs.declared.operations.operation.Spot.TheVariants.{At}
use Rattle.scr_term.specs.Operations.Laws.{ProfilesHave, RunLaws}
use Rattle.scr_term.specs.Operations.Profiles.{ProfileView, IsProfile, abilities, is_there}
use Rattle.scr_term.specs.Operations.States.{TerminalState, IsState, blank_state}
use Rattle.scr_term.specs.Operations.Steps.{runs, step}
use Rattle.scr_term.specs.Operations.Texts.{all_bytes}
use Rattle.scr_memory.specs.Memories.{Agrees, MayBe, MemoryView, all_followed, clears, followed, has_one_pen, is_known, is_nothing_known, places_spot}
use Rattle.scr_term.specs.Operations.Painted.{Shows}
use Rattle.scr_plan.proofs.ScratchLaws.{cleared_run, grid_is_painted}
use Rattle.scr_plan.proofs.PlanLaws.{begins_with}
use Rattle.scr_term.specs.declared.operations.capability.Capability.TheVariants.{Sgr0}
use Rattle.scr_plan.specs.Plans.{Begins, IsPlan, PlansAreRemembered, bound_of}
use Rattle.scr_plan.specs.Scratch.{Fits, look_at, resets}
use Rattle.scr_memory.specs.MemoryRuns.{KnownMemories, MemoryRuns}
use Rattle.scr_memory.specs.Spares.{SpareLaws, are_sure, is_reset, is_sure, needs_no_reset}
use Rattle.scr_plan.specs.Checks.{BeginsAnew}

both : (a b : Bool) → (a && b) ≡ true → (a ≡ true) × (b ≡ true)
both true b e = (refl, e)
both false b e = (cc)

-- ---- a plan of such operations

nothing_known : {R : Type 0} (memory : MemoryView) → is_nothing_known memory ≡ true → is_known memory ≡ true → R
nothing_known memory none all = grind arith

pub is_the_reset : (op : Op) → is_reset op ≡ true → op ≡ Reset
is_the_reset Reset e = refl
is_the_reset op e = (cc)

sure_begins : (profile : ProfileView) (memory : MemoryView) (ops : List Op) → is_nothing_known memory ≡ true → is_there profile Sgr0 ≡ true → are_sure profile ops memory ≡ true → is_known (all_followed profile ops memory) ≡ true → Begins Reset ops
sure_begins profile memory [] none there sure known = nothing_known memory none known
sure_begins profile memory (op ∷ ops) none there sure known =
    let parts = both (is_sure profile memory op && is_some (step profile memory.state op)) (are_sure profile ops (followed profile op memory)) sure in
    let here = both (is_sure profile memory op) (is_some (step profile memory.state op)) parts.0 in
    let pen : memory.known_pen ≡ false = grind arith in
    let needs : needs_no_reset profile ≡ false = ap (λ b. has_one_pen (abilities profile) && not b) there ∙ and_false (has_one_pen (abilities profile)) in
    (ops, ap (λ op. op ∷ ops) (is_the_reset op (by (is_reset op) refl ((λ i. is_reset op || ((sym pen i || sym needs i) && (memory.known_spot || places_spot op))) ∙ here.0))))
  where
    and_false : (b : Bool) → (b && false) ≡ false
    and_false true = refl
    and_false false = refl

    by : (b : Bool) → is_reset op ≡ b → (b || false) ≡ true → is_reset op ≡ true
    by true is e = is
    by false is e = (cc)

pub sure_plan : RunLaws → SpareLaws → KnownMemories → MemoryRuns → GridLaws LookView → (profile : ProfileView) → IsProfile profile → (virtual : VirtualView) → IsPicture virtual.picture → Fits profile virtual.picture
    → (memory : MemoryView) → MayBe (abilities profile) memory → virtual.repaint ≡ false
    → (ops : List Op) (last : MemoryView) → are_sure profile ops memory ≡ true → last ≡ all_followed profile ops memory → is_known last ≡ true → IsGrid profile.rows profile.columns last.state.grid
    → ((r c : ℕ) → r < virtual.picture.rows → c < virtual.picture.columns → grid_at blank last.state.grid r c ≡ look_at profile virtual.picture (r, c))
    → IfSome virtual.picture.wish (λ wish. last.state.spot ≡ At wish.0 wish.1)
    → length ops ≤ virtual.picture.rows * virtual.picture.columns * 12 + 4
    → length (all_bytes profile ops) ≤ length (all_bytes profile (bound_of profile memory virtual))
    → IsPlan profile memory virtual ops
sure_plan laws spares known_laws memory_laws grids profile p virtual k fits memory may calm ops last sure is known wide shown placed few cheap =
    let lines : IsGrid profile.rows profile.columns virtual.picture.lines = rw (← fits.rows, ← fits.columns) k.grid in
    let at_last : (new : TerminalState) → last.state ≡ new → Shows (abilities profile) new virtual.picture = λ new same. subst (λ state. Shows (abilities profile) state virtual.picture) same (record {
      grid = grid_is_painted grids profile virtual.picture lines last.state.grid wide (λ r c high wide. shown r c (omega (arith, high, fits.rows)) (omega (arith, wide, fits.columns)));
      spot = placed;
    }) in
    record {
      shows = λ old start.
          let agrees = start.agrees calm in
          let led = spares.sure profile p ops memory may sure old agrees in
          let after : Agrees (abilities profile) last led.0 = subst (λ memory. Agrees (abilities profile) memory led.0) (sym is) (memory_laws.follows profile p memory may old led.0 ops agrees led.1) in
          record {
            new = led.0;
            run = led.1;
            shows = at_last led.0 (known_laws.state (abilities profile) last wide led.0 after known);
            state = laws.kept profile p old led.0 start.state ops led.1;
          };
      agrees = λ may old new start run. memory_laws.follows profile p memory may old new ops (start.agrees calm) run;
      known = λ may. ap is_known (sym is) ∙ known;
      begins = λ unknown there. sure_begins profile memory ops (ap (λ b. b || is_nothing_known memory) (sym calm) ∙ unknown) there sure (ap is_known (sym is) ∙ known);
      few = few;
      cheap = cheap;
    }

-- ---- a plan that clears the screen

pub anew_plan : RunLaws → ProfilesHave → PlansAreRemembered → GridLaws LookView → (profile : ProfileView) → IsProfile profile → (virtual : VirtualView) → IsPicture virtual.picture → Fits profile virtual.picture
    → (memory : MemoryView) → MayBe (abilities profile) memory → (is_known memory && not virtual.repaint) ≡ false
    → (ops : List Op) (new : TerminalState) → BeginsAnew profile ops → runs profile memory.state ops ≡ Some new → IsGrid profile.rows profile.columns new.grid
    → ((r c : ℕ) → r < virtual.picture.rows → c < virtual.picture.columns → grid_at blank new.grid r c ≡ look_at profile virtual.picture (r, c))
    → IfSome virtual.picture.wish (λ wish. new.spot ≡ At wish.0 wish.1)
    → length ops ≤ virtual.picture.rows * virtual.picture.columns * 12 + 4
    → length (all_bytes profile ops) ≤ length (all_bytes profile (bound_of profile memory virtual))
    → IsPlan profile memory virtual ops
anew_plan laws have remembered grids profile p virtual k fits memory may due ops new begun run wide shown placed few cheap =
    let lines : IsGrid profile.rows profile.columns virtual.picture.lines = rw (← fits.rows, ← fits.columns) k.grid in
    let first : List Op = resets profile ++ Clear ∷ [] in
    let blanks : TerminalState = blank_state profile.rows profile.columns in
    let is : ops ≡ resets profile ++ Clear ∷ [] ++ begun.0 = begun.1 in
    let from : (old : TerminalState) → IsState (abilities profile) old → runs profile old ops ≡ runs profile blanks begun.0 = λ old state.
    ap (runs profile old) is ∙ laws.joined profile old blanks first begun.0 (cleared_run laws profile (have profile p) old state.pen) in
    let all : (old : TerminalState) → IsState (abilities profile) old → runs profile old ops ≡ Some new = λ old state. from old state ∙ sym (from memory.state may.state) ∙ run in
    record {
      shows = λ old start. record {
        new = new;
        run = all old start.state;
        shows = record {
          grid = grid_is_painted grids profile virtual.picture lines new.grid wide (λ r c high wide. shown r c (omega (arith, high, fits.rows)) (omega (arith, wide, fits.columns)));
          spot = placed;
        };
        state = laws.kept profile p old new start.state ops (all old start.state);
      };
      agrees = λ may old new start run. subst (λ o. Agrees (abilities profile) (all_followed profile o memory) new) (sym is) (remembered.agrees profile p memory may old new start.state begun.0 (ap (λ o. runs profile old o) (sym is) ∙ run));
      known = λ may. subst (λ o. is_known (all_followed profile o memory) ≡ true) (sym is) (remembered.cleared profile p memory may new begun.0 (ap (λ o. runs profile memory.state o) (sym is) ∙ run));
      begins = λ unknown there. begins_with profile ops (Clear ∷ [] ++ begun.0) there (is ∙ append_assoc (resets profile) (Clear ∷ []) begun.0);
      few = few;
      cheap = cheap;
    }

pub is_the_clear : (op : Op) → clears op ≡ true → op ≡ Clear
is_the_clear Clear e = refl
is_the_clear op e = (cc)

pub begun_first : (profile : ProfileView) (ops : List Op) → is_there profile Sgr0 ≡ false → 0 < length ops → get_or ops 0 Home ≡ Clear → BeginsAnew profile ops
begun_first profile [] none some is = absurd (omega (arith, some))
begun_first profile (op ∷ ops) none some is = (ops, ap (λ op. op ∷ ops) is ∙ sym (ap (λ b. (if b then Reset ∷ [] else []) ++ Clear ∷ [] ++ ops) none))

pub begun_second : (profile : ProfileView) (ops : List Op) → is_there profile Sgr0 ≡ true → 2 ≤ length ops → get_or ops 0 Home ≡ Reset → get_or ops 1 Home ≡ Clear → BeginsAnew profile ops
begun_second profile [] there some one other = absurd (omega (arith, some))
begun_second profile (op ∷ []) there some one other = absurd (omega (arith, some))
begun_second profile (op ∷ next ∷ ops) there some one other = (ops, (λ i. one i ∷ other i ∷ ops) ∙ sym (ap (λ b. (if b then Reset ∷ [] else []) ++ Clear ∷ [] ++ ops) there))
