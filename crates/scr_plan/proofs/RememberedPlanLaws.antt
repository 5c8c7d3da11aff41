-- What is remembered after a plan, and that a known row shows the picture but for the columns that may look otherwise.
use Rattle.std.proofs.Common.{arith, ◌≡◌, ℕ, zero, suc, ◌==◌, ◌&&◌, ◌||◌, not, Bool, true, false, refl, sym, ◌∙◌, ap, append_assoc, subst, List, [], ◌∷◌, ◌++◌, Some, replicate, if◌then◌else◌, ◌+◌, ◌<◌, leb, ltb, get_or, length, map}
use Rattle.std.specs.List.{list_all, range_with_len}
use Rattle.scr_term.specs.declared.operations.capability.Capability.TheVariants.{Sgr0}
use Rattle.scr_term.specs.declared.operations.operation.Op.{Op}
use Rattle.scr_term.specs.declared.operations.operation.Op.TheVariants.{Clear, Reset}
use Rattle.scr_term.specs.Operations.Abilities.{Abilities}
use Rattle.scr_term.specs.Operations.Laws.{HasLaws, ProfilesHave, RunLaws}
use Rattle.scr_term.specs.Operations.Profiles.{ProfileView, IsProfile, abilities, is_there}
use Rattle.scr_term.specs.Operations.States.{TerminalState, IsState, blank_state}
use Rattle.scr_term.specs.Operations.Steps.{runs}
use Rattle.scr_memory.specs.Memories.{Agrees, MayBe, MemoryView, all_followed, has_one_pen, is_known, stepped}
use Rattle.scr_memory.specs.MemoryRuns.{MemoryRuns}
use Rattle.scr_plan.proofs.PlaceLaws.{first_step, goes_on, then_runs}
use Rattle.scr_plan.proofs.ScratchLaws.{cleared_run, map_grid_at, map_is_grid}
use Rattle.scr_plan.specs.Plans.{PlansAreRemembered, UpToDateLaws}
use Rattle.scr_plan.specs.Scratch.{RunsToShow, ScratchShows, paints_places, places_cursor, resets, scratch_of}
use Rattle.std.proofs.lemmas.List.FromFn.{get_or-map-range_with_len, length-map-range_with_len}
use Rattle.std.proofs.Math.ListN.{get_or-eq_default}
use Rattle.scr_cells.specs.CellViews.{blank_cell}
use Rattle.scr_cells.specs.Grids.{grid_at, grid_row}
use Rattle.scr_cells.specs.LookViews.{blank}
use Rattle.scr_cells.specs.PictureViews.{PictureView, IsPicture}
use Rattle.scr_virtual.specs.Laws.{HoldsChanges}
use Rattle.scr_virtual.specs.Ranges.{in_range}
use Rattle.scr_virtual.specs.VirtualViews.{VirtualView, altered_at}
use Rattle.scr_term.specs.Operations.Painted.{painted, seen_on}
use Rattle.scr_plan.proofs.PartLaws.{read_any}

-- the remembered state agrees with what is remembered
pub agrees_itself : (abilities : Abilities) (memory : MemoryView) → MayBe abilities memory → Agrees abilities memory memory.state
agrees_itself abilities memory may = grind arith

-- a list that is all true
known_all : (n : ℕ) → list_all (λ k. k) (replicate n true) ≡ true
known_all zero = refl
known_all (suc n) = known_all n

-- a run that goes on was defined before
pub run_before : RunLaws → (profile : ProfileView) (old new : TerminalState) (ops more : List Op) → runs profile old (ops ++ more) ≡ Some new
    → (next : TerminalState) × (runs profile old ops ≡ Some next) × (runs profile next more ≡ Some new)
run_before laws profile old new ops more e = goes_on (runs profile old ops) (λ next. runs profile next more) new (sym (laws.after profile old ops more) ∙ e)

-- what is all known after operations is after more of them
known_more : RunLaws → MemoryRuns → (profile : ProfileView) → IsProfile profile → (memory : MemoryView) → MayBe (abilities profile) memory → (new : TerminalState) (ops more : List Op)
    → runs profile memory.state (ops ++ more) ≡ Some new → is_known (all_followed profile ops memory) ≡ true → is_known (all_followed profile (ops ++ more) memory) ≡ true
known_more laws one profile p memory may new ops more e known =
    let parts = run_before laws profile memory.state new ops more e in
    let agrees : Agrees (abilities profile) (all_followed profile ops memory) parts.0 =
    one.follows profile p memory may memory.state parts.0 ops (agrees_itself (abilities profile) memory may) parts.1 in
    ap is_known (one.joined profile memory ops more)
    ∙ one.stays_known profile p (all_followed profile ops memory) (one.stays_possible profile p memory ops may) parts.0 new more agrees parts.2 known

-- the screen is cleared where the pen is known, or can be no other
known_cleared : (abilities : Abilities) (memory : MemoryView) (next : TerminalState) → (memory.known_pen || false || has_one_pen abilities) ≡ true → is_known (stepped abilities Clear memory (Some next)) ≡ true
known_cleared abilities memory next pen = grind (arith, known_all)

-- after no attribute and default colours, and a blank screen
known_begun : (profile : ProfileView) → HasLaws profile → (memory : MemoryView) (new : TerminalState) → (b : Bool) → is_there profile Sgr0 ≡ b
    → runs profile memory.state ((if b then Reset ∷ [] else []) ++ Clear ∷ []) ≡ Some new → is_known (all_followed profile ((if b then Reset ∷ [] else []) ++ Clear ∷ []) memory) ≡ true
known_begun profile can memory new true there e =
    let first = first_step profile memory.state new Reset (Clear ∷ []) e in
    let second = first_step profile first.0 new Clear [] first.2 in
    rw (first.1, second.1) (known_cleared (abilities profile) (stepped (abilities profile) Reset memory (Some first.0)) second.0 (grind arith))
known_begun profile can memory new false there e =
    let first = first_step profile memory.state new Clear [] e in
    let one : has_one_pen (abilities profile) ≡ true = (λ i. can.plain_set there i == 0 && not (can.plain_colours there i)) in
    rw first.1 (known_cleared (abilities profile) memory first.0 (grind (arith, one)))

-- whatever is sent after a screen that was cleared, if it is defined
anew_known : RunLaws → ProfilesHave → MemoryRuns → (profile : ProfileView) → IsProfile profile → (memory : MemoryView) → MayBe (abilities profile) memory
    → (new : TerminalState) (ops : List Op) → runs profile memory.state (resets profile ++ Clear ∷ [] ++ ops) ≡ Some new
    → is_known (all_followed profile (resets profile ++ Clear ∷ [] ++ ops) memory) ≡ true
anew_known laws have one profile p memory may new ops run =
    let begins : List Op = resets profile ++ Clear ∷ [] in
    let first = run_before laws profile memory.state new begins ops run in
    known_more laws one profile p memory may new begins ops run (known_begun profile (have profile p) memory first.0 (is_there profile Sgr0) refl first.1)

-- from whatever state: the screen is the same after what clears it
anew_agrees : RunLaws → ProfilesHave → MemoryRuns → (profile : ProfileView) → IsProfile profile → (memory : MemoryView) → MayBe (abilities profile) memory → (old new : TerminalState) → IsState (abilities profile) old
    → (ops : List Op) → runs profile old (resets profile ++ Clear ∷ [] ++ ops) ≡ Some new → Agrees (abilities profile) (all_followed profile (resets profile ++ Clear ∷ [] ++ ops) memory) new
anew_agrees laws have one profile p memory may old new state ops run =
    let begins : List Op = resets profile ++ Clear ∷ [] in
    let blanks : TerminalState = blank_state profile.rows profile.columns in
    let first = run_before laws profile old new begins ops run in
    let cleared = cleared_run laws profile (have profile p) old state.pen in
    let same : first.0 ≡ blanks = (cc (first.1, cleared)) in
    let here : runs profile memory.state (begins ++ ops) ≡ Some new =
    then_runs laws profile memory.state blanks new begins ops (cleared_run laws profile (have profile p) memory.state may.state.pen) (subst (λ s. runs profile s ops ≡ Some new) same first.2) in
    one.follows profile p memory may memory.state new (begins ++ ops) (agrees_itself (abilities profile) memory may) here

pub plans_are_remembered : RunLaws → ProfilesHave → MemoryRuns → ScratchShows → PlansAreRemembered
plans_are_remembered laws have one scratch = record {
  cleared = λ profile p memory may new ops run. anew_known laws have one profile p memory may new ops run;
  agrees = λ profile p memory may old new state ops run. anew_agrees laws have one profile p memory may old new state ops run;
  scratch = λ profile p picture k fits memory may.
      let run : RunsToShow profile memory.state (scratch_of profile picture) picture = scratch profile p picture k fits memory.state may.state in
      let begins : List Op = resets profile ++ Clear ∷ [] in
      let rest : List Op = paints_places profile picture ++ resets profile ++ places_cursor picture.wish in
      let same : begins ++ rest ≡ scratch_of profile picture = simp append_assoc in
      subst (λ ops. is_known (all_followed profile ops memory) ≡ true) same
      (anew_known laws have one profile p memory may run.new rest (ap (runs profile memory.state) same ∙ run.run));
}

-- ---- rows that are not known

no_row : (n r : ℕ) → get_or (replicate n false) r false ≡ false
no_row zero r = refl
no_row (suc n) zero = refl
no_row (suc n) (suc r) = no_row n r

-- a row that is known after others wrote was known before
was_known : (first n r : ℕ) (rows : List Bool) → get_or (map (λ k. if leb first k && ltb k (first + n) then false else get_or rows k false) (range_with_len 0 (length rows))) r false ≡ true → get_or rows r false ≡ true
was_known first n r rows known =
    let few = length-map-range_with_len (λ k. if leb first k && ltb k (first + n) then false else get_or rows k false) 0 (length rows) in
    grind (arith, few, get_or-map-range_with_len, get_or-eq_default)

-- ---- ranges

was_outside : (old new : VirtualView) → HoldsChanges old new → (r c : ℕ) → in_range (altered_at new r) c ≡ false → in_range (altered_at old r) c ≡ false
was_outside old new changes r c out = grind arith

-- ---- after an update

-- what the painted picture has in a place
pub painted_at : (able : Abilities) (picture : PictureView) (r c : ℕ) → IsPicture picture → r < picture.rows → c < picture.columns
    → grid_at blank (painted able picture) r c ≡ seen_on able picture.pairs (grid_at blank_cell picture.lines r c)
painted_at able picture r c k high wide =
    let f = seen_on able picture.pairs in
    let is = map_is_grid f picture.rows picture.columns picture.lines k.grid in
    read_any (grid_row (painted able picture) r) c blank (f blank_cell) (omega (arith, is.wide r high, wide)) ∙ map_grid_at f picture.lines r c

pub up_to_date : MemoryRuns → UpToDateLaws
up_to_date runs = record {
  at_first = λ profile rows columns virtual r c high wide known out. (cc (no_row rows r));
  forgets = λ profile memory virtual r c high wide known out. (cc (no_row (length memory.known_rows) r));
  disturbs = λ profile memory virtual first n same r c high wide known out. same r c high wide (was_known first n r memory.known_rows known) out;
  holds = λ profile memory old new changes rows columns same r c high wide known out.
      let low : r < old.picture.rows = omega (arith, high, rows) in
      let left : c < old.picture.columns = omega (arith, wide, columns) in
      same r c low left known (was_outside old new changes r c out) ∙ sym (changes.altered.holds (abilities profile).charset (abilities profile).shown (abilities profile).colours r c low left out);
  follows = λ profile memory virtual ops may k plan r c high wide known out.
      let shown = plan.shows memory.state (record { state = may.state; agrees = λ _. agrees_itself (abilities profile) memory may }) in
      ap (λ state. grid_at blank state.grid r c) (runs.state profile memory shown.new ops shown.run)
      ∙ ap (λ grid. grid_at blank grid r c) shown.shows.grid
      ∙ painted_at (abilities profile) virtual.picture r c k high wide;
}
