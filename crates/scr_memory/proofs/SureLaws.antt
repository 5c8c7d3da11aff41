-- Operations that need only what is known are defined from every state that agrees.
use Rattle.std.proofs.Common.{◌≡◌, ◌&&◌, ◌||◌, Bool, true, false, refl, sym, ◌∙◌, ap, List, [], ◌∷◌, Option, Some, None, option_and_then}
use Rattle.std.specs.Option.{is_some}
use Rattle.scr_cells.specs.Grids.{grid_at}
use Rattle.scr_cells.specs.LookViews.{blank}
use Rattle.scr_term.specs.declared.operations.operation.Op.{Op}
use Rattle.scr_term.specs.declared.operations.operation.Op.TheVariants.{Home, Move, Clear, Reset}
use Rattle.scr_term.specs.Operations.Defined.{DefinedLaws}
use Rattle.scr_term.specs.Operations.Profiles.{ProfileView, IsProfile, abilities}
use Rattle.scr_term.specs.Operations.States.{TerminalState}
use Rattle.scr_term.specs.Operations.Steps.{runs, step}
use Rattle.scr_memory.proofs.FollowLaws.{both, one_pen}
use Rattle.scr_memory.specs.MemoryRuns.{MemoryRuns}
use Rattle.scr_memory.specs.Memories.{Agrees, MayBe, MemoryView, followed, has_one_pen, places_spot}
use Rattle.scr_memory.specs.Spares.{SpareLaws, are_sure, is_reset, is_sure, needs_no_reset}

-- what places the cursor does not depend on where it was, nor Reset on anything
placing_alike : DefinedLaws → (profile : ProfileView) (op : Op) (a b : TerminalState) → places_spot op ≡ true → a.pen ≡ b.pen → is_some (step profile a op) ≡ is_some (step profile b op)
placing_alike laws profile Home a b places pen = laws.home profile a b pen
placing_alike laws profile (Move r c) a b places pen = laws.move profile r c a b pen
placing_alike laws profile Clear a b places pen = laws.clear profile a b pen
placing_alike laws profile op a b places pen = (cc)

reset_alike : DefinedLaws → (profile : ProfileView) (op : Op) (a b : TerminalState) → is_reset op ≡ true → is_some (step profile a op) ≡ is_some (step profile b op)
reset_alike laws profile Reset a b is = laws.reset profile a b
reset_alike laws profile op a b is = (cc)

sure_alike : DefinedLaws → (profile : ProfileView) (memory : MemoryView) (op : Op) (old : TerminalState) → MayBe (abilities profile) memory → Agrees (abilities profile) memory old → is_sure profile memory op ≡ true
    → is_some (step profile memory.state op) ≡ is_some (step profile old op)
sure_alike laws profile memory op old may agrees sure = first (is_reset op) refl sure
  where
    one : needs_no_reset profile ≡ true → memory.state.pen ≡ old.pen
    one e =
        let only = (both (has_one_pen (abilities profile)) _ e).0 in
        one_pen (abilities profile) memory.state.pen only may.state.pen ∙ sym (one_pen (abilities profile) old.pen only agrees.is_state.pen)

    third : (spot places : Bool) → memory.known_spot ≡ spot → places_spot op ≡ places → memory.state.pen ≡ old.pen → (spot || places) ≡ true → is_some (step profile memory.state op) ≡ is_some (step profile old op)
    third true places spot p pen e = laws.alike profile op memory.state old (sym (agrees.spot spot)) pen
    third false places spot p pen e = placing_alike laws profile op memory.state old (p ∙ e) pen

    second : (pen : Bool) → memory.known_pen ≡ pen → ((pen || needs_no_reset profile) && (memory.known_spot || places_spot op)) ≡ true → is_some (step profile memory.state op) ≡ is_some (step profile old op)
    second true pen e = third memory.known_spot (places_spot op) refl refl (sym (agrees.pen pen)) e
    second false pen e =
        let parts = both (needs_no_reset profile) (memory.known_spot || places_spot op) e in
        third memory.known_spot (places_spot op) refl refl (one parts.0) parts.1

    first : (b : Bool) → is_reset op ≡ b → (b || ((memory.known_pen || needs_no_reset profile) && (memory.known_spot || places_spot op))) ≡ true → is_some (step profile memory.state op) ≡ is_some (step profile old op)
    first true is e = reset_alike laws profile op memory.state old is
    first false is e = second memory.known_pen refl e

there : {A : Type 0} (o : Option A) → is_some o ≡ true → (x : A) × (o ≡ Some x)
there (Some x) e = (x, refl)
there None e = (cc)

-- a run of them
sure_runs : DefinedLaws → MemoryRuns → (profile : ProfileView) → IsProfile profile → (ops : List Op) (memory : MemoryView) → MayBe (abilities profile) memory → are_sure profile ops memory ≡ true
    → (old : TerminalState) → Agrees (abilities profile) memory old → (new : TerminalState) × (runs profile old ops ≡ Some new)
sure_runs defined laws profile p [] memory may sure old agrees = (old, refl)
sure_runs defined laws profile p (op ∷ ops) memory may sure old agrees =
    let parts = both (is_sure profile memory op && is_some (step profile memory.state op)) (are_sure profile ops (followed profile op memory)) sure in
    let here = both (is_sure profile memory op) (is_some (step profile memory.state op)) parts.0 in
    let next = there (step profile old op) (sym (sure_alike defined profile memory op old may agrees here.0) ∙ here.1) in
    let one : runs profile old (op ∷ []) ≡ Some next.0 = ap (option_and_then (λ next. runs profile next [])) next.1 in
    let rest = sure_runs defined laws profile p ops (followed profile op memory) (laws.stays_possible profile p memory (op ∷ []) may) parts.1 next.0 (laws.follows profile p memory may old next.0 (op ∷ []) agrees one) in
    (rest.0, ap (option_and_then (λ next. runs profile next ops)) next.1 ∙ rest.1)

pub spare_laws : DefinedLaws → MemoryRuns → SpareLaws
spare_laws defined laws = record {
  of = λ memory spare ready. record { rows = ready.rows; columns = ready.columns; same = λ r c high wide out. ap (λ grid. grid_at blank grid r c) ready.grid };
  still = λ memory less spare rows columns grid ready. record { rows = ready.rows ∙ sym rows; columns = ready.columns ∙ sym columns; grid = ready.grid ∙ sym grid; none = ready.none };
  sure = sure_runs defined laws;
}
