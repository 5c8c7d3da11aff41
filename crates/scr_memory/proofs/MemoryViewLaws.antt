-- Steps on what is remembered, and what is true of it after them.
use Rattle.std.proofs.Common.{◌≡◌, ℕ, ◌+◌, Bool, true, false, sym, ◌∙◌, ap, refl, arith, List, [], ◌∷◌, length, set, zero, suc, Option, Some, None, replicate, ◌<◌, ◌&&◌, leb, ltb, min}
use Rattle.std.specs.List.{list_all}
use Rattle.std.specs.Option.{is_some}
use Rattle.std.proofs.lemmas.Bool.Decides.{nat_tests}
use Rattle.std.proofs.lemmas.List.{length-replicate}
use Rattle.scr_term.specs.declared.operations.operation.Op.{Op}
use Rattle.scr_term.specs.Operations.Abilities.{Abilities}
use Rattle.scr_term.specs.Operations.Profiles.{abilities}
use Rattle.scr_term.specs.Operations.States.{TerminalState}
use Rattle.scr_memory.specs.Memories.{MemoryView, disturbed, known_from, made_plain, stepped}
use Rattle.scr_memory.specs.Code.Remembering.{IsKept, gone_to, with_run}
use Rattle.scr_memory.proofs.RememberedRowLaws.{all_are, all_true, from_is_run, from_kept, with_alike}

-- every row is set
pub set_is_kept : (memory : MemoryView) (all known : Bool) (new : List Bool) → IsKept memory all → new ≡ replicate (length memory.known_rows) known → IsKept (record memory { known_rows = new }) known
set_is_kept memory all known new kept new_is = record {
  is = record {
    size = kept.is.size;
    state = kept.is.state;
    whole = ap length new_is ∙ length-replicate (length memory.known_rows) known ∙ kept.is.whole;
  };
  every = sym (ap (list_all (λ k. k)) new_is ∙ all_are (length memory.known_rows) known (omega (arith, kept.is.size.some_rows, kept.is.whole)));
}

-- where all rows are known, to know them all changes nothing
pub all_kept : (memory view : MemoryView) (all : Bool) → memory ≡ view → IsKept memory all → all ≡ true → view ≡ record view { known_rows = replicate (length view.known_rows) true }
all_kept memory view all is kept e =
    let known : list_all (λ k. k) view.known_rows ≡ true = ap (λ (m : MemoryView). list_all (λ k. k) m.known_rows) (sym is) ∙ sym kept.every ∙ e in
    ap (λ rows. record view { known_rows = rows }) (all_true view.known_rows known)

-- the state goes on, and then what is known of it
pub learnt : (abilities : Abilities) (op : Op) (old memory : MemoryView) (next : Option TerminalState) → is_some next ≡ true → memory ≡ gone_to old next
    → stepped abilities op memory (Some memory.state) ≡ stepped abilities op old next
learnt abilities op old memory None there is = (cc)
learnt abilities op old memory (Some next) there is = ap (λ m. stepped abilities op m (Some m.state)) is

-- rows that there are are disturbed
pub disturbed_is : (memory view : MemoryView) (first n from end rows : ℕ) (new : List Bool) → memory ≡ view → length memory.known_rows ≡ rows
    → ((r : ℕ) → r < rows → (leb from r && ltb r end) ≡ (leb first r && ltb r (first + n))) → new ≡ with_run false from end memory.known_rows
    → record memory { state = made_plain memory.state; known_rows = new; known_spot = false; known_pen = false } ≡ disturbed first n view
disturbed_is memory view first n from end rows new is whole alike new_is =
    let there : new ≡ with_run false first (first + n) memory.known_rows =
    new_is ∙ with_alike false first (first + n) from end memory.known_rows (λ r h. alike r (omega (arith, h, whole))) in
    ap (λ known. record memory { state = made_plain memory.state; known_rows = known; known_spot = false; known_pen = false }) there ∙ ap (disturbed first n) is

-- ---- sizes

-- the size stays
pub same_size : (abilities : Abilities) (op : Op) (memory : MemoryView) (next : Option TerminalState)
    → ((stepped abilities op memory next).rows ≡ memory.rows) × ((stepped abilities op memory next).columns ≡ memory.columns)
same_size abilities op memory None = (refl, refl)
same_size abilities op memory (Some next) = (refl, refl)

-- ---- one row

set_known : (rows : List Bool) (r : ℕ) → list_all (λ k. k) rows ≡ true → rows ≡ set rows r true
set_known [] r e = refl
set_known (true ∷ rows) zero e = refl
set_known (false ∷ rows) zero e = (cc)
set_known (true ∷ rows) (suc r) e = ap (λ more. true ∷ more) (set_known rows r e)
set_known (false ∷ rows) (suc r) e = (cc)

-- where all rows are known, to know one changes nothing
pub one_kept : (memory view : MemoryView) (all : Bool) (r : ℕ) → memory ≡ view → IsKept memory all → all ≡ true → view ≡ record view { known_rows = set view.known_rows r true }
one_kept memory view all r is kept e =
    let known : list_all (λ k. k) view.known_rows ≡ true = ap (λ (m : MemoryView). list_all (λ k. k) m.known_rows) (sym is) ∙ sym kept.every ∙ e in
    ap (λ rows. record view { known_rows = rows }) (set_known view.known_rows r known)

-- ---- all rows from one on

-- where all rows are known, to know these changes nothing
pub rest_kept : (memory view : MemoryView) (all : Bool) (first : ℕ) → memory ≡ view → IsKept memory all → all ≡ true → view ≡ record view { known_rows = known_from first view.known_rows }
rest_kept memory view all first is kept e =
    let known : list_all (λ k. k) view.known_rows ≡ true = ap (λ (m : MemoryView). list_all (λ k. k) m.known_rows) (sym is) ∙ sym kept.every ∙ e in
    ap (λ rows. record view { known_rows = rows }) (sym (from_kept first view.known_rows known))

-- the lesser of a row and the number of rows tells the rows there are as the row does
pub least_tells : (first rows r : ℕ) → r < rows → (from : ℕ) → from ≡ min first rows → leb from r ≡ leb first r
least_tells first rows r h from is = grind (arith, nat_tests)

-- those that there are become known
pub rest_is : (memory view : MemoryView) (first from rows : ℕ) (new : List Bool) → memory ≡ view → length memory.known_rows ≡ rows → ((r : ℕ) → r < rows → leb from r ≡ leb first r)
    → new ≡ with_run true from rows memory.known_rows → record memory { known_rows = new } ≡ record view { known_rows = known_from first view.known_rows }
rest_is memory view first from rows new is whole alike new_is =
    let there : new ≡ known_from first memory.known_rows =
    new_is ∙ ap (λ n. with_run true from n memory.known_rows) (sym whole) ∙ from_is_run first from memory.known_rows (λ r h. alike r (omega (arith, h, whole))) in
    ap (λ known. record memory { known_rows = known }) there ∙ ap (λ (m : MemoryView). record m { known_rows = known_from first m.known_rows }) is
