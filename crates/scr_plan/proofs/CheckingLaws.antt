-- A list of operations that was tried is a plan, where all is known; and what is refused is none.
use Rattle.std.proofs.Common.{◌≡◌, ℕ, ◌+◌, ◌*◌, ◌<◌, ◌≤◌, inl, inr, ◌&&◌, not, Bool, true, false, refl, sym, ◌∙◌, ap, arith, subst, List, length, Some, IfSome, OnErr, OnOk, Result, Ok, Err}
use Rattle.std.specs.Option.{is_some}
use Rattle.scr_cells.specs.Grids.{GridLaws, IsGrid, grid_at}
use Rattle.scr_cells.specs.LookViews.{LookView, blank}
use Rattle.scr_cells.specs.PictureViews.{IsPicture, PictureView}
use Rattle.scr_virtual.specs.VirtualViews.{VirtualView}
use Rattle.scr_term.specs.declared.operations.operation.Op.{Op}
use Rattle.scr_term.specs.declared.operations.operation.Spot.TheVariants.{At}
use Rattle.scr_term.specs.Operations.Laws.{RunLaws}
use Rattle.scr_term.specs.Operations.Profiles.{ProfileView, IsProfile, abilities}
use Rattle.scr_term.specs.Operations.States.{TerminalState, IsState}
use Rattle.scr_term.specs.Operations.Steps.{runs}
use Rattle.scr_term.specs.Operations.Texts.{all_bytes}
use Rattle.scr_memory.specs.Memories.{MayBe, MemoryView, is_known}
use Rattle.scr_memory.specs.MemoryRuns.{KnownMemories, MemoryRuns}
use Rattle.scr_plan.proofs.RememberedPlanLaws.{agrees_itself, painted_at}
use Rattle.scr_plan.proofs.ScratchLaws.{grid_is_painted}
use Rattle.scr_plan.proofs.PlanLaws.{not_nothing}
use Rattle.scr_memory.specs.Spares.{HasTried, IsAllMarked, IsSpareOf, SpareView}
use Rattle.scr_terminal.specs.Marks.{AreNone, is_marked}
use Rattle.scr_plan.specs.Checks.{IsAhead, IsUnlike, IsWholeBound, ShowsMarked, ShowsUnmarked}
use Rattle.scr_plan.specs.Plans.{IsPlan, bound_of}
use Rattle.scr_plan.specs.Scratch.{Fits, RunsToShow, look_at}

-- what a plan says of the remembered state, where that is possible
pub plan_says : (profile : ProfileView) (virtual : VirtualView) (memory : MemoryView) → MayBe (abilities profile) memory → (ops : List Op) → IsPlan profile memory virtual ops → RunsToShow profile memory.state ops virtual.picture
plan_says profile virtual memory may ops plan = plan.shows memory.state (record { state = may.state; agrees = λ calm. agrees_itself (abilities profile) memory may })

-- nor is one after which a place shows something else, or the cursor is elsewhere
pub unlike_is_none : (profile : ProfileView) (virtual : VirtualView) → IsPicture virtual.picture → (memory : MemoryView) → MayBe (abilities profile) memory → (ops : List Op) (new : TerminalState) → runs profile memory.state ops ≡ Some new
    → (r c : ℕ) → r < virtual.picture.rows → c < virtual.picture.columns → (grid_at blank new.grid r c ≡ look_at profile virtual.picture (r, c) → ⊥) → IsPlan profile memory virtual ops → ⊥
unlike_is_none profile virtual k memory may ops new run r c high wide other plan =
    let shown = plan_says profile virtual memory may ops plan in
    let same : shown.new ≡ new = same_some (sym shown.run ∙ run) in
    other (ap (λ (state : TerminalState). grid_at blank state.grid r c) (sym same) ∙ ap (λ grid. grid_at blank grid r c) shown.shows.grid ∙ painted_at (abilities profile) virtual.picture r c k high wide)
  where
    same_some : {a b : TerminalState} → Some a ≡ Some b → a ≡ b
    same_some e = (cc)

-- ---- the plan

pub known_plan : RunLaws → KnownMemories → MemoryRuns → GridLaws LookView → (profile : ProfileView) → IsProfile profile → (virtual : VirtualView) → IsPicture virtual.picture → Fits profile virtual.picture
    → (memory : MemoryView) → IsGrid profile.rows profile.columns memory.state.grid → is_known memory ≡ true → virtual.repaint ≡ false
    → (ops : List Op) (new : TerminalState) → runs profile memory.state ops ≡ Some new → IsGrid profile.rows profile.columns new.grid
    → ((r c : ℕ) → r < virtual.picture.rows → c < virtual.picture.columns → grid_at blank new.grid r c ≡ look_at profile virtual.picture (r, c))
    → IfSome virtual.picture.wish (λ wish. new.spot ≡ At wish.0 wish.1)
    → length ops ≤ virtual.picture.rows * virtual.picture.columns * 12 + 4
    → length (all_bytes profile ops) ≤ length (all_bytes profile (bound_of profile memory virtual))
    → IsPlan profile memory virtual ops
known_plan laws known_laws memory_laws grids profile p virtual k fits memory whole known calm ops new run wide shown placed few cheap =
    let lines : IsGrid profile.rows profile.columns virtual.picture.lines = rw (← fits.rows, ← fits.columns) k.grid in
    let shows : (old : TerminalState) → IsState (abilities profile) old → runs profile old ops ≡ Some new → RunsToShow profile old ops virtual.picture = λ old state run. record {
      new = new;
      run = run;
      shows = record {
        grid = grid_is_painted grids profile virtual.picture lines new.grid wide (λ r c high wide. shown r c (omega (arith, high, fits.rows)) (omega (arith, wide, fits.columns)));
        spot = placed;
      };
      state = laws.kept profile p old new state ops run;
    } in
    record {
      shows = λ old start. shows old start.state (ap (λ state. runs profile state ops) (sym (known_laws.state (abilities profile) memory whole old (start.agrees calm) known)) ∙ run);
      agrees = λ may old new start run. memory_laws.follows profile p memory may old new ops (start.agrees calm) run;
      known = λ may. memory_laws.stays_known profile p memory may memory.state new ops (agrees_itself (abilities profile) memory may) run known;
      begins = λ unknown there. not_nothing memory virtual.repaint (ap (λ b. is_known memory && not b) calm ∙ ap (λ b. b && true) known) unknown;
      few = few;
      cheap = cheap;
    }

-- ---- what the marks leave out

-- each place shows the picture: a marked one as was compared, another as before
pub all_shown : (profile : ProfileView) (virtual : VirtualView) (memory : MemoryView) (marked tried : SpareView) → marked.memory ≡ memory → marked.marks.rows ≡ virtual.picture.rows → marked.marks.columns ≡ virtual.picture.columns
    → ShowsUnmarked profile memory virtual marked.marks → HasTried marked tried → ShowsMarked profile tried virtual.picture
    → (r c : ℕ) → r < virtual.picture.rows → c < virtual.picture.columns → grid_at blank tried.memory.state.grid r c ≡ look_at profile virtual.picture (r, c)
all_shown profile virtual memory marked tried is rows columns unmarked has shown r c high wide = by (is_marked tried.marks r c) refl
  where
    by : (b : Bool) → is_marked tried.marks r c ≡ b → grid_at blank tried.memory.state.grid r c ≡ look_at profile virtual.picture (r, c)
    by true e = shown r high c wide e
    by false e =
        let before = has.marks r c (omega (arith, high, rows)) (omega (arith, wide, columns)) e in
        before.1 ∙ ap (λ (m : MemoryView). grid_at blank m.state.grid r c) is ∙ unmarked r c high wide before.0

-- where every place is marked, each was compared
pub all_compared : (profile : ProfileView) (picture : PictureView) (tried : SpareView) → tried.memory.rows ≡ picture.rows → tried.memory.columns ≡ picture.columns → IsAllMarked tried → ShowsMarked profile tried picture
    → (r c : ℕ) → r < picture.rows → c < picture.columns → grid_at blank tried.memory.state.grid r c ≡ look_at profile picture (r, c)
all_compared profile picture tried rows columns marked shown r c high wide = shown r high c wide (marked r c (omega (arith, high, rows)) (omega (arith, wide, columns)))

-- what is tried after that leaves every place marked
pub still_marked : (old new : SpareView) → old.marks.rows ≡ old.memory.rows → old.marks.columns ≡ old.memory.columns → IsAllMarked old → HasTried old new → IsAllMarked new
still_marked old new rows columns all has r c high wide = by (is_marked new.marks r c) refl
  where
    never : {P : Type 0} → true ≡ false → P
    never e = (cc)

    by : (b : Bool) → is_marked new.marks r c ≡ b → is_marked new.marks r c ≡ true
    by true e = e
    by false e = never (sym (all r c (omega (arith, high, has.rows)) (omega (arith, wide, has.columns))) ∙ (has.marks r c (omega (arith, high, has.rows, rows)) (omega (arith, wide, has.columns, columns)) e).0)

-- a spare of which every place is marked is that of any memory of its size
pub marked_is_of : (memory : MemoryView) (spare : SpareView) → spare.marks.rows ≡ spare.memory.rows → spare.marks.columns ≡ spare.memory.columns → spare.memory.rows ≡ memory.rows → spare.memory.columns ≡ memory.columns → IsAllMarked spare → IsSpareOf memory spare
marked_is_of memory spare high wide rows columns all = record {
  rows = rows;
  columns = columns;
  same = λ r c tall broad out. never (sym (all r c (omega (arith, tall, high)) (omega (arith, broad, wide))) ∙ out);
}
  where
    never : {P : Type 0} → true ≡ false → P
    never e = (cc)

-- ---- what is refused

-- what a plan leads to from the remembered state is what was tried
led : (profile : ProfileView) (virtual : VirtualView) (memory : MemoryView) (may : MayBe (abilities profile) memory) (ops : List Op) (new : TerminalState) → runs profile memory.state ops ≡ Some new → (plan : IsPlan profile memory virtual ops)
    → (plan_says profile virtual memory may ops plan).new ≡ new
led profile virtual memory may ops new run plan = same (sym (plan_says profile virtual memory may ops plan).run ∙ run)
  where
    same : {a b : TerminalState} → Some a ≡ Some b → a ≡ b
    same e = (cc)

pub unlike_is_no_plan : RunLaws → (profile : ProfileView) (virtual : VirtualView) → IsPicture virtual.picture → (memory : MemoryView) → MayBe (abilities profile) memory → (bound : ℕ) → IsWholeBound profile memory virtual bound → (ops : List Op) (spare : SpareView)
    → runs profile memory.state ops ≡ Some spare.memory.state → IsUnlike profile virtual.picture bound ops spare → IsPlan profile memory virtual ops → ⊥
unlike_is_no_plan laws profile virtual k memory may bound whole ops spare run (inl misses) plan =
    unlike_is_none profile virtual k memory may ops spare.memory.state run misses.0 misses.1 misses.2 misses.3 misses.4 plan
unlike_is_no_plan laws profile virtual k memory may bound whole ops spare run (inr (inl elsewhere)) plan =
    elsewhere (subst (λ (state : TerminalState). IfSome virtual.picture.wish (λ wish. state.spot ≡ At wish.0 wish.1)) (led profile virtual memory may ops spare.memory.state run plan) (plan_says profile virtual memory may ops plan).shows.spot)
unlike_is_no_plan laws profile virtual k memory may bound whole ops spare run (inr (inr dear)) plan =
    dear whole.less (laws.had profile memory.state spare.memory.state ops run) (omega (arith, plan.cheap, whole.all))

pub on_err : {A E : Type 0} {P : Type 0} (result : Result A E) → P → OnErr result P
on_err (Ok value) p = tt
on_err (Err error) p = p

-- ---- a plan that is tried

-- what is known to be defined was executed to its end
ran : {A E : Type 0} (profile : ProfileView) (ops : List Op) (old new : TerminalState) (result : Result A E) → OnOk result (runs profile old ops ≡ Some new) → OnErr result (is_some (runs profile old ops) ≡ false)
    → is_some (runs profile old ops) ≡ true → runs profile old ops ≡ Some new
ran profile ops old new (Ok value) run none there = run
ran profile ops old new (Err error) run none there = never (sym there ∙ none)
  where
    never : {P : Type 0} → true ≡ false → P
    never e = (cc)

pub is_ahead : {A E : Type 0} → MemoryRuns → (profile : ProfileView) (virtual : VirtualView) (memory : MemoryView) → MayBe (abilities profile) memory → (ops : List Op) → IsPlan profile memory virtual ops → (begun tried : SpareView) (result : Result A E)
    → begun.memory ≡ memory → AreNone begun.marks → begun.marks.rows ≡ memory.rows → begun.marks.columns ≡ memory.columns → HasTried begun tried
    → OnOk result (runs profile begun.memory.state ops ≡ Some tried.memory.state) → OnErr result (is_some (runs profile begun.memory.state ops) ≡ false) → IsAhead profile memory ops tried
is_ahead laws profile virtual memory may ops plan begun tried result is none high wide has ok err =
    let shown = plan_says profile virtual memory may ops plan in
    let same : begun.memory.state ≡ memory.state = ap (λ (m : MemoryView). m.state) is in
    let there : is_some (runs profile begun.memory.state ops) ≡ true = ap (λ state. is_some (runs profile state ops)) same ∙ ap is_some shown.run in
    let run : runs profile memory.state ops ≡ Some tried.memory.state = ap (λ state. runs profile state ops) (sym same) ∙ ran profile ops begun.memory.state tried.memory.state result ok err there in
    record {
      of = record {
        rows = has.rows ∙ ap (λ (m : MemoryView). m.rows) is;
        columns = has.columns ∙ ap (λ (m : MemoryView). m.columns) is;
        same = λ r c tall broad out. (has.marks r c (omega (arith, tall, has.high)) (omega (arith, broad, has.wide)) out).1 ∙ ap (λ (m : MemoryView). grid_at blank m.state.grid r c) is;
      };
      state = laws.state profile memory tried.memory.state ops run;
      known = plan.known may;
    }
