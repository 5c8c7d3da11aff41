-- Operations one after another, as they are remembered; and what is all known.
use Rattle.std.proofs.Common.{◌≡◌, ◌&&◌, true, false, refl, ◌∙◌, ap, subst, List, [], ◌∷◌, ◌++◌, Option, Some, None, option_and_then, replicate}
use Rattle.std.specs.List.{list_all}
use Rattle.std.proofs.lemmas.List.{length-replicate}
use Rattle.scr_cells.specs.Grids.{GridLaws, IsGrid}
use Rattle.scr_cells.specs.LookViews.{LookView}
use Rattle.scr_term.specs.declared.operations.operation.Op.{Op}
use Rattle.scr_term.specs.Operations.Abilities.{Abilities}
use Rattle.scr_term.specs.Operations.Laws.{BlankLaws}
use Rattle.scr_term.specs.Operations.Profiles.{ProfileView, IsProfile, abilities}
use Rattle.scr_term.specs.Operations.States.{TerminalState, IsState, blank_state}
use Rattle.scr_term.specs.Operations.Steps.{runs, step}
use Rattle.scr_memory.proofs.FollowLaws.{both, known_state}
use Rattle.scr_memory.proofs.MemoryViewLaws.{same_size}
use Rattle.scr_memory.proofs.RememberedRowLaws.{all_true}
use Rattle.scr_memory.specs.Memories.{Agrees, MayBe, MemoryLaws, MemoryView, all_followed, followed, is_known, remembered, stepped, unknown}
use Rattle.scr_memory.specs.MemoryRuns.{KnownMemories, MemoryRuns}

-- ---- runs

-- a step that leads to a state, and one that goes on from there
pub goes_on : {A : Type 0} (first : Option A) (f : A → Option A) (new : A) → option_and_then f first ≡ Some new → (next : A) × (first ≡ Some next) × (f next ≡ Some new)
goes_on None f new e = (cc)
goes_on (Some next) f new e = (next, refl, e)

pub same_some : {A : Type 0} (a b : A) → Some a ≡ Some b → a ≡ b
same_some a b e = (cc)

runs_follow : MemoryLaws → (profile : ProfileView) → IsProfile profile → (memory : MemoryView) → MayBe (abilities profile) memory → (old new : TerminalState) (ops : List Op)
    → Agrees (abilities profile) memory old → runs profile old ops ≡ Some new → Agrees (abilities profile) (all_followed profile ops memory) new
runs_follow laws profile p memory may old new [] agrees e = subst (Agrees (abilities profile) memory) (same_some old new e) agrees
runs_follow laws profile p memory may old new (op ∷ ops) agrees e =
    let parts = goes_on (step profile old op) (λ next. runs profile next ops) new e in
    runs_follow laws profile p (followed profile op memory) (laws.stays_possible profile p memory op may) parts.0 new ops (laws.follows profile p memory may old parts.0 op agrees parts.1) parts.2

runs_stay_known : MemoryLaws → (profile : ProfileView) → IsProfile profile → (memory : MemoryView) → MayBe (abilities profile) memory → (old new : TerminalState) (ops : List Op)
    → Agrees (abilities profile) memory old → runs profile old ops ≡ Some new → is_known memory ≡ true → is_known (all_followed profile ops memory) ≡ true
runs_stay_known laws profile p memory may old new [] agrees e known = known
runs_stay_known laws profile p memory may old new (op ∷ ops) agrees e known =
    let parts = goes_on (step profile old op) (λ next. runs profile next ops) new e in
    runs_stay_known laws profile p (followed profile op memory) (laws.stays_possible profile p memory op may) parts.0 new ops (laws.follows profile p memory may old parts.0 op agrees parts.1) parts.2
    (laws.stays_known profile p memory may old parts.0 op agrees parts.1 known)

runs_state : (profile : ProfileView) (memory : MemoryView) (new : TerminalState) (ops : List Op) → runs profile memory.state ops ≡ Some new → (all_followed profile ops memory).state ≡ new
runs_state profile memory new [] e = same_some memory.state new e
runs_state profile memory new (op ∷ ops) e =
    let parts = goes_on (step profile memory.state op) (λ next. runs profile next ops) new e in
    let there : (followed profile op memory).state ≡ parts.0 = ap (λ next. (stepped (abilities profile) op memory next).state) parts.1 in
    runs_state profile (followed profile op memory) new ops (ap (λ state. runs profile state ops) there ∙ parts.2)

pub all_joined : (profile : ProfileView) (memory : MemoryView) (ops more : List Op) → all_followed profile (ops ++ more) memory ≡ all_followed profile more (all_followed profile ops memory)
all_joined profile memory [] more = refl
all_joined profile memory (op ∷ ops) more = all_joined profile (followed profile op memory) ops more

pub all_rows : (profile : ProfileView) (memory : MemoryView) (ops : List Op) → (all_followed profile ops memory).rows ≡ memory.rows
all_rows profile memory [] = refl
all_rows profile memory (op ∷ ops) = all_rows profile (followed profile op memory) ops ∙ (same_size (abilities profile) op memory (step profile memory.state op)).0

pub all_columns : (profile : ProfileView) (memory : MemoryView) (ops : List Op) → (all_followed profile ops memory).columns ≡ memory.columns
all_columns profile memory [] = refl
all_columns profile memory (op ∷ ops) = all_columns profile (followed profile op memory) ops ∙ (same_size (abilities profile) op memory (step profile memory.state op)).1

pub runs_stay_possible : MemoryLaws → (profile : ProfileView) → IsProfile profile → (memory : MemoryView) (ops : List Op) → MayBe (abilities profile) memory → MayBe (abilities profile) (all_followed profile ops memory)
runs_stay_possible laws profile p memory [] may = may
runs_stay_possible laws profile p memory (op ∷ ops) may = runs_stay_possible laws profile p (followed profile op memory) ops (laws.stays_possible profile p memory op may)

-- a blank memory of which nothing is known agrees with every state, and its own is possible
unknown_agrees : MemoryLaws → (profile : ProfileView) → IsProfile profile → (now : TerminalState) → IsState (abilities profile) now → Agrees (abilities profile) (unknown profile.rows profile.columns) now
unknown_agrees laws profile p now state =
    let memory : MemoryView = remembered profile.rows profile.columns (blank_state profile.rows profile.columns) in
    subst (λ n. Agrees (abilities profile) (record (unknown profile.rows profile.columns) { known_rows = replicate n false }) now) (length-replicate profile.rows true)
    (laws.forgets (abilities profile) memory now (length-replicate profile.rows true) state)

unknown_possible : BlankLaws → (profile : ProfileView) → IsProfile profile → MayBe (abilities profile) (unknown profile.rows profile.columns)
unknown_possible blanks profile p = record { state = blanks.state profile p; high = length-replicate profile.rows false }

pub memory_runs : BlankLaws → MemoryLaws → MemoryRuns
memory_runs blanks laws = record {
  follows = runs_follow laws;
  stays_known = runs_stay_known laws;
  stays_possible = runs_stay_possible laws;
  state = runs_state;
  joined = all_joined;
  rows = all_rows;
  columns = all_columns;
  at_first = unknown_agrees laws;
  possible_at_first = unknown_possible blanks;
}

-- ---- what is all known

known_is : GridLaws LookView → (abilities : Abilities) (memory : MemoryView) → IsGrid abilities.rows abilities.columns memory.state.grid → (now : TerminalState) → Agrees abilities memory now → is_known memory ≡ true
    → memory ≡ record (remembered abilities.rows abilities.columns now) { rows = memory.rows; columns = memory.columns }
known_is grids abilities memory whole now agrees known =
    let most = both (list_all (λ known. known) memory.known_rows && memory.known_spot) memory.known_pen known in
    let parts = both (list_all (λ known. known) memory.known_rows) memory.known_spot most.0 in
    let state : memory.state ≡ now = known_state grids abilities memory whole now agrees known in
    let rows : memory.known_rows ≡ replicate abilities.rows true = all_true memory.known_rows parts.0 ∙ ap (λ n. replicate n true) agrees.high in
    λ i. record { rows = memory.rows; columns = memory.columns; state = state i; known_rows = rows i; known_spot = parts.1 i; known_pen = most.1 i }

pub known_memories : GridLaws LookView → KnownMemories
known_memories grids = record {
  state = known_state grids;
  all = λ abilities memory whole now agrees known rows columns.
      known_is grids abilities memory whole now agrees known ∙ (λ i. record (remembered abilities.rows abilities.columns now) { rows = rows i; columns = columns i });
  is = known_is grids;
}
