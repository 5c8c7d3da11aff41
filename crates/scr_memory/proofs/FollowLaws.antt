-- What is remembered goes on to agree with the terminal.
use Rattle.std.proofs.Common.{◌≡◌, ◌≢◌, ℕ, ◌+◌, ◌<◌, ◌==◌, ◌&&◌, ◌||◌, not, leb, ltb, Bool, true, false, refl, sym, ◌∙◌, ap, subst, arith, bit_and, List, [], ◌∷◌, get_or, length, map, set, Option, Some, None, replicate, zero, suc, if◌then◌else◌}
use Rattle.std.specs.List.{list_all, range_with_len}
use Rattle.std.proofs.lemmas.Bool.Decides.{nat_tests}
use Rattle.std.proofs.lemmas.List.{get_or-set_other, length-map, length-replicate, length-set}
use Rattle.std.proofs.lemmas.List.FromFn.{get_or-map-range_with_len, length-range_with_len}
use Rattle.std.proofs.lemmas.Nat.{and_le_l}
use Rattle.scr_cells.specs.declared.charsets.Charset.TheVariants.{Utf8}
use Rattle.scr_cells.specs.Grids.{GridLaws, IsGrid, grid_at, grid_of, grid_row, is_in_run}
use Rattle.scr_cells.specs.LookViews.{LookView, blank}
use Rattle.scr_cells.specs.PenViews.{PenView, plain_pen}
use Rattle.scr_term.specs.declared.operations.operation.Op.{Op}
use Rattle.scr_term.specs.declared.operations.operation.Op.TheVariants.{Home, Move, Clear, EraseLine, EraseBelow, EraseChars, InsertLines, DeleteLines, InsertChars, DeleteChars, ScrollUp, ScrollDown, Reset, Set, Put, Write, Repeat}
use Rattle.scr_term.specs.declared.operations.operation.Spot.{Spot}
use Rattle.scr_term.specs.declared.operations.operation.Spot.TheVariants.{At, Margin}
use Rattle.scr_term.specs.Operations.Abilities.{Abilities, full_abilities}
use Rattle.scr_term.specs.Operations.Laws.{ShownPenLaws, StepsKeepStates}
use Rattle.scr_term.specs.Operations.Profiles.{ProfileView, IsProfile, abilities}
use Rattle.scr_term.specs.Operations.States.{TerminalState, AreShownColours, IsShownPen, IsState, is_from_place}
use Rattle.scr_term.specs.Operations.Steps.{act, step}
use Rattle.scr_term.specs.Operations.Texts.{has}
use Rattle.scr_memory.proofs.ActLaws.{Acts, acts, erased_grid, grid_by, pen_by, rows_same, spot_by}
use Rattle.scr_memory.proofs.RememberedRowLaws.{from_above, from_as_many, from_kept}
use Rattle.scr_memory.specs.Memories.{Agrees, IsDisturbance, IsMemory, IsWithout, MayBe, MemoryLaws, MemoryView, changes_cells, clears, disturbed, followed, forgotten, has_one_pen, is_known, is_known_row, loses_rows, made_plain, moves_rows, places_spot, rows_erased, sets_pen, stepped}

-- ---- places that are alike

map_same : {A : Type 0} (f g : ℕ → A) (n a : ℕ) → ((k : ℕ) → k < a + n → f k ≡ g k) → map f (range_with_len a n) ≡ map g (range_with_len a n)
map_same f g zero a same = refl
map_same f g (suc n) a same = λ i. same a (omega arith) i ∷ map_same f g n (a + 1) (λ k below. same k (omega (arith, below))) i

grid_same : (rows columns : ℕ) (f g : ℕ → ℕ → LookView) → ((r c : ℕ) → r < rows → c < columns → f r c ≡ g r c) → grid_of rows columns f ≡ grid_of rows columns g
grid_same rows columns f g same =
    map_same (λ r. map (f r) (range_with_len 0 columns)) (λ r. map (g r) (range_with_len 0 columns)) rows 0
    (λ r high. map_same (f r) (g r) columns 0 (λ c wide. same r c (omega (arith, high)) (omega (arith, wide))))

-- ---- truth values

either : {R : Type 0} (a b : Bool) → (a || b) ≡ true → (a ≡ true → R) → (b ≡ true → R) → R
either true b e first second = first refl
either false b e first second = second e

pub both : (a b : Bool) → (a && b) ≡ true → (a ≡ true) × (b ≡ true)
both true b e = (refl, e)
both false b e = (cc)

false_is_not : {R : Type 0} (b : Bool) → b ≡ false → b ≡ true → R
false_is_not true e f = (cc)
false_is_not false e f = (cc)

-- ---- what is not known

no_row : (n r : ℕ) → get_or (replicate n false) r false ≡ false
no_row zero r = refl
no_row (suc n) zero = refl
no_row (suc n) (suc r) = no_row n r

pub forgets : (abilities : Abilities) (memory : MemoryView) (new : TerminalState) → length memory.known_rows ≡ abilities.rows → IsState abilities new → Agrees abilities (forgotten memory) new
forgets abilities memory new high state = record {
  is_state = state;
  high = length-replicate (length memory.known_rows) false ∙ high;
  rows = λ r h known. false_is_not _ (no_row (length memory.known_rows) r) known;
  spot = λ known. false_is_not false refl known;
  pen = λ known. false_is_not false refl known;
}

-- ---- which states are possible

-- with the plain pen a state is possible on every terminal of its size
plain_state : ShownPenLaws → (abilities other : Abilities) → other.rows ≡ abilities.rows → other.columns ≡ abilities.columns → (state : TerminalState) → IsState other state → IsState abilities (made_plain state)
plain_state pens abilities other rows columns state is = record {
  whole = rw (← rows, ← columns) is.whole;
  looks = is.looks;
  spot = rw (← rows, ← columns) is.spot;
  pen = pens.plain abilities;
}

forgotten_possible : ShownPenLaws → (abilities : Abilities) (memory : MemoryView) → MayBe abilities memory → MayBe abilities (forgotten memory)
forgotten_possible pens abilities memory may = record {
  state = plain_state pens abilities abilities refl refl memory.state may.state;
  high = length-replicate (length memory.known_rows) false ∙ may.high;
}

possible_again : ShownPenLaws → (abilities : Abilities) (memory : MemoryView) → IsMemory memory → memory.rows ≡ abilities.rows → memory.columns ≡ abilities.columns → MayBe abilities (forgotten memory)
possible_again pens abilities memory is rows columns = record {
  state = plain_state pens abilities (full_abilities Utf8 memory.rows memory.columns) rows columns memory.state is.state;
  high = length-replicate (length memory.known_rows) false ∙ is.whole ∙ rows;
}

disturbed_possible : ShownPenLaws → (abilities : Abilities) (memory : MemoryView) (first n : ℕ) → MayBe abilities memory → MayBe abilities (disturbed first n memory)
disturbed_possible pens abilities memory first n may =
    let f : ℕ → Bool = λ r. if leb first r && ltb r (first + n) then false else is_known_row memory r in
    record {
      state = plain_state pens abilities abilities refl refl memory.state may.state;
      high = length-map (range_with_len 0 (length memory.known_rows)) f ∙ length-range_with_len 0 (length memory.known_rows) ∙ may.high;
    }

-- the remembered state agrees with what is remembered
pub itself : (abilities : Abilities) (memory : MemoryView) → MayBe abilities memory → Agrees abilities memory memory.state
itself abilities memory may = record {
  is_state = may.state;
  high = may.high;
  rows = λ r h known. refl;
  spot = λ known. refl;
  pen = λ known. refl;
}

-- ---- what others wrote

pub others : (abilities : Abilities) (rows : ℕ → Bool) (memory less : MemoryView) (old new : TerminalState) → Agrees abilities memory old → IsDisturbance abilities rows old new
    → IsWithout rows memory less → Agrees abilities less new
others abilities rows memory less old new agrees wrote without = record {
  is_state = wrote.state;
  high = without.high ∙ agrees.high;
  rows = λ r h known.
      let was = without.rows r (omega (arith, h, agrees.high)) known in
      wrote.same r was.1 ∙ agrees.rows r h was.0 ∙ ap (λ g. grid_row g r) (sym without.grid);
  spot = λ known. false_is_not less.known_spot without.spot known;
  pen = λ known. false_is_not less.known_pen without.pen known;
}

known_before : (lost before : Bool) → (if lost then false else before) ≡ true → (before ≡ true) × (lost ≡ false)
known_before true before e = (cc)
known_before false before e = (e, refl)

pub marks : (memory : MemoryView) (first n : ℕ) → IsWithout (λ r. leb first r && ltb r (first + n)) memory (disturbed first n memory)
marks memory first n =
    let f : ℕ → Bool = λ r. if leb first r && ltb r (first + n) then false else is_known_row memory r in
    record {
      grid = refl;
      high = length-map (range_with_len 0 (length memory.known_rows)) f ∙ length-range_with_len 0 (length memory.known_rows);
      rows = λ r h known.
          let at : 0 + r ≡ r = omega arith in
          known_before (leb first r && ltb r (first + n)) (is_known_row memory r) (sym (get_or-map-range_with_len f 0 (length memory.known_rows) r r false h at) ∙ known);
      spot = refl;
      pen = refl;
    }

neither : (a b : Bool) → a ≡ false → b ≡ false → (a || b) ≡ false
neither true b e f = (cc)
neither false b e f = f

pub marks_join : (one other : ℕ → Bool) (memory between less : MemoryView) → IsWithout one memory between → IsWithout other between less → IsWithout (λ r. one r || other r) memory less
marks_join one other memory between less a b = record {
  grid = b.grid ∙ a.grid;
  high = b.high ∙ a.high;
  rows = λ r h known.
      let later = b.rows r (omega (arith, h, a.high)) known in
      let before = a.rows r h later.0 in
      (before.0, neither (one r) (other r) before.1 later.1);
  spot = b.spot;
  pen = b.pen;
}

-- ---- the kinds of operations

placed_same : (columns : ℕ) (op : Op) (a b : Spot) → places_spot op ≡ true → spot_by columns op a ≡ spot_by columns op b
placed_same columns Home a b e = refl
placed_same columns (Move r c) a b e = refl
placed_same columns Clear a b e = refl
placed_same columns op a b e = (cc)

pen_same : (op : Op) (a b : PenView) → sets_pen op ≡ true → pen_by op a ≡ pen_by op b
pen_same Reset a b e = refl
pen_same (Set attrs) a b e = refl
pen_same op a b e = (cc)

cleared_same : (profile : ProfileView) (op : Op) (s t : Spot) (p q : PenView) (a b : List (List LookView)) → clears op ≡ true → grid_by profile op s p a ≡ grid_by profile op t q b
cleared_same profile Clear s t p q a b e = refl
cleared_same profile op s t p q a b e = (cc)

kept_same : (profile : ProfileView) (op : Op) (s : Spot) (p : PenView) (a : List (List LookView)) → clears op ≡ false → changes_cells op ≡ false → moves_rows op ≡ false → grid_by profile op s p a ≡ a
kept_same profile Clear s p a e f g = (cc)
kept_same profile EraseLine s p a e f g = (cc)
kept_same profile EraseBelow s p a e f g = (cc)
kept_same profile (EraseChars n) s p a e f g = (cc)
kept_same profile (InsertChars n) s p a e f g = (cc)
kept_same profile (DeleteChars n) s p a e f g = (cc)
kept_same profile (InsertLines n) s p a e f g = (cc)
kept_same profile (DeleteLines n) s p a e f g = (cc)
kept_same profile (ScrollUp n) s p a e f g = (cc)
kept_same profile (ScrollDown n) s p a e f g = (cc)
kept_same profile (Put byte) s p a e f g = (cc)
kept_same profile (Write code) s p a e f g = (cc)
kept_same profile (Repeat byte n) s p a e f g = (cc)
kept_same profile op s p a e f g = refl

-- a terminal that shows nothing else has a plain pen
pub one_pen : (abilities : Abilities) (pen : PenView) → has_one_pen abilities ≡ true → IsShownPen abilities pen → pen ≡ plain_pen
one_pen abilities pen e shown =
    let found = both (abilities.shown == 0) (not abilities.colours) e in
    let none : abilities.shown ≡ 0 = grind (arith, nat_tests, found.0) in
    let dull : abilities.colours ≡ false = not_true abilities.colours found.1 in
    let nothing : bit_and 0 pen.attrs ≡ pen.attrs = ap (λ set. bit_and set pen.attrs) (sym none) ∙ shown.attrs in
    let attrs : pen.attrs ≡ 0 = omega (arith, nothing, and_le_l 0 pen.attrs) in
    let colours : AreShownColours false pen.foreground pen.background = subst (λ b. AreShownColours b pen.foreground pen.background) dull shown.colours in
    λ i. record { attrs = attrs i; foreground = colours.0 i; background = colours.1 i }
  where
    not_true : (b : Bool) → not b ≡ true → b ≡ false
    not_true true e = (cc)
    not_true false e = refl

-- ---- one operation more

had : (profile : ProfileView) (old new : TerminalState) (op : Op) → step profile old op ≡ Some new → act profile old op ≡ Some new
had profile old new op e = there (has profile op) e
  where
    there : (b : Bool) → (if b then act profile old op else None) ≡ Some new → act profile old op ≡ Some new
    there true e = e
    there false e = (cc)

-- every place of a row is erased
whole_row : (profile : ProfileView) (inside : ℕ → ℕ → Bool) (a b : List (List LookView)) (r : ℕ) → r < profile.rows → ((c : ℕ) → c < profile.columns → inside r c ≡ true) → grid_row (erased_grid profile inside a) r ≡ grid_row (erased_grid profile inside b) r
whole_row profile inside a b r high all =
    let at : 0 + r ≡ r = omega arith in
    get_or-map-range_with_len (λ r. map (λ c. if inside r c then blank else grid_at blank a r c) (range_with_len 0 profile.columns)) 0 profile.rows r r [] high at
    ∙ map_same (λ c. if inside r c then blank else grid_at blank a r c) (λ c. if inside r c then blank else grid_at blank b r c) profile.columns 0
    (λ c wide. ap (λ t. if t then blank else grid_at blank a r c) (all c (omega (arith, wide))) ∙ sym (ap (λ t. if t then blank else grid_at blank b r c) (all c (omega (arith, wide)))))
    ∙ sym (get_or-map-range_with_len (λ r. map (λ c. if inside r c then blank else grid_at blank b r c) (range_with_len 0 profile.columns)) 0 profile.rows r r [] high at)

-- a row that is known after an operation where the cursor and the pen are known
erased_after : (profile : ProfileView) (op : Op) (spot : Spot) (pen : PenView) (a b : List (List LookView)) → IsGrid profile.rows profile.columns a → IsGrid profile.rows profile.columns b → (rows : List Bool) (r : ℕ) → r < profile.rows → moves_rows op ≡ false
    → (get_or rows r false ≡ true → grid_row a r ≡ grid_row b r) → get_or (rows_erased op (spot_by profile.columns op spot) rows) r false ≡ true
    → grid_row (grid_by profile op spot pen a) r ≡ grid_row (grid_by profile op spot pen b) r
erased_after profile EraseLine (At r0 zero) pen a b first second rows r high still same known = by (r == r0) refl
  where
    by : (t : Bool) → (r == r0) ≡ t → grid_row (grid_by profile EraseLine (At r0 0) pen a) r ≡ grid_row (grid_by profile EraseLine (At r0 0) pen b) r
    by true e = whole_row profile (is_in_run r0 0 profile.columns) a b r high (λ c wide. grind (arith, nat_tests))
    by false e =
        let other : r ≢ r0 = λ at. false_is_not (r == r0) e (grind (arith, nat_tests)) in
        rows_same profile EraseLine (At r0 0) pen a b first second r high refl (same (sym (get_or-set_other rows r0 r true false other) ∙ known))
erased_after profile EraseLine (At r0 (suc c)) pen a b first second rows r high still same known = rows_same profile EraseLine (At r0 (suc c)) pen a b first second r high refl (same known)
erased_after profile EraseLine (Margin r0) pen a b first second rows r high still same known = rows_same profile EraseLine (Margin r0) pen a b first second r high refl (same known)
erased_after profile EraseBelow (At r0 zero) pen a b first second rows r high still same known = by (leb r0 r) refl
  where
    by : (t : Bool) → leb r0 r ≡ t → grid_row (grid_by profile EraseBelow (At r0 0) pen a) r ≡ grid_row (grid_by profile EraseBelow (At r0 0) pen b) r
    by true e = whole_row profile (is_from_place r0 0) a b r high (λ c wide. grind (arith, nat_tests))
    by false e = rows_same profile EraseBelow (At r0 0) pen a b first second r high refl (same (from_above r0 rows r e known))
erased_after profile EraseBelow (At r0 (suc c)) pen a b first second rows r high still same known = rows_same profile EraseBelow (At r0 (suc c)) pen a b first second r high refl (same known)
erased_after profile EraseBelow (Margin r0) pen a b first second rows r high still same known = rows_same profile EraseBelow (Margin r0) pen a b first second r high refl (same known)
erased_after profile op spot pen a b first second rows r high still same known = rows_same profile op spot pen a b first second r high still (same known)

-- an operation that changes no cell erases no row
not_erased : (op : Op) (spot : Spot) (rows : List Bool) → changes_cells op ≡ false → rows_erased op spot rows ≡ rows
not_erased EraseLine spot rows e = (cc)
not_erased EraseBelow spot rows e = (cc)
not_erased op spot rows e = refl

-- both states after an operation, from two that it was defined from
rows_after : (profile : ProfileView) (memory : MemoryView) → MayBe (abilities profile) memory → (old new next : TerminalState) (op : Op) → Agrees (abilities profile) memory old
    → Acts profile op old.grid old.spot old.pen new → Acts profile op memory.state.grid memory.state.spot memory.state.pen next → (is_known memory ≡ true → new ≡ next)
    → (r : ℕ) → r < profile.rows → (clear change know move all : Bool) → clears op ≡ clear → changes_cells op ≡ change → (memory.known_spot && memory.known_pen) ≡ know → moves_rows op ≡ move → is_known memory ≡ all
    → get_or (if clear then replicate (length memory.known_rows) true else (if (change && not know) || (move && not all) then replicate (length memory.known_rows) false else rows_erased op next.spot memory.known_rows)) r false ≡ true
    → grid_row new.grid r ≡ grid_row next.grid r
rows_after profile memory may old new next op agrees a b same r h true change know move all ce he ke me ae known =
    ap (λ g. grid_row g r) (a.grid_is ∙ cleared_same profile op old.spot memory.state.spot old.pen memory.state.pen old.grid memory.state.grid ce ∙ sym b.grid_is)
rows_after profile memory may old new next op agrees a b same r h false change know move true ce he ke me ae known = ap (λ (s : TerminalState). grid_row s.grid r) (same ae)
rows_after profile memory may old new next op agrees a b same r h false false know true false ce he ke me ae known = false_is_not _ (no_row (length memory.known_rows) r) known
rows_after profile memory may old new next op agrees a b same r h false true true true false ce he ke me ae known = false_is_not _ (no_row (length memory.known_rows) r) known
rows_after profile memory may old new next op agrees a b same r h false true false move false ce he ke me ae known = false_is_not _ (no_row (length memory.known_rows) r) known
rows_after profile memory may old new next op agrees a b same r h false false know false false ce he ke me ae known =
    ap (λ g. grid_row g r) (a.grid_is ∙ kept_same profile op old.spot old.pen old.grid ce he me)
    ∙ agrees.rows r h (sym (ap (λ rows. get_or rows r false) (not_erased op next.spot memory.known_rows he)) ∙ known)
    ∙ ap (λ g. grid_row g r) (sym (b.grid_is ∙ kept_same profile op memory.state.spot memory.state.pen memory.state.grid ce he me))
rows_after profile memory may old new next op agrees a b same r h false true true false false ce he ke me ae known =
    let parts = both memory.known_spot memory.known_pen ke in
    let spot : old.spot ≡ memory.state.spot = agrees.spot parts.0 in
    let pen : old.pen ≡ memory.state.pen = agrees.pen parts.1 in
    ap (λ g. grid_row g r) (a.grid_is ∙ (λ i. grid_by profile op (spot i) (pen i) old.grid))
    ∙ erased_after profile op memory.state.spot memory.state.pen old.grid memory.state.grid agrees.is_state.whole may.state.whole memory.known_rows r h me (agrees.rows r h)
    (ap (λ s. get_or (rows_erased op s memory.known_rows) r false) (sym b.spot_is) ∙ known)
    ∙ ap (λ g. grid_row g r) (sym b.grid_is)

as_many : (op : Op) (spot : Spot) (rows : List Bool) → length (rows_erased op spot rows) ≡ length rows
as_many EraseLine (At r zero) rows = length-set rows r true
as_many EraseLine (At r (suc c)) rows = refl
as_many EraseLine (Margin r) rows = refl
as_many EraseBelow (At r zero) rows = from_as_many r rows
as_many EraseBelow (At r (suc c)) rows = refl
as_many EraseBelow (Margin r) rows = refl
as_many op spot rows = refl

high_after : (op : Op) (spot : Spot) (memory : MemoryView) (a b : Bool) → length (if a then replicate (length memory.known_rows) true else (if b then replicate (length memory.known_rows) false else rows_erased op spot memory.known_rows)) ≡ length memory.known_rows
high_after op spot memory true b = length-replicate (length memory.known_rows) true
high_after op spot memory false true = length-replicate (length memory.known_rows) false
high_after op spot memory false false = as_many op spot memory.known_rows

-- ---- all that was known is

all_known : (rows : List Bool) (r : ℕ) → list_all (λ known. known) rows ≡ true → r < length rows → get_or rows r false ≡ true
all_known [] r e h = absurd (omega (arith, h))
all_known (known ∷ rows) zero e h = (both known (list_all (λ known. known) rows) e).0
all_known (known ∷ rows) (suc r) e h = all_known rows r (both known (list_all (λ known. known) rows) e).1 (omega (arith, h))

pub known_all : (n : ℕ) → list_all (λ known. known) (replicate n true) ≡ true
known_all zero = refl
known_all (suc n) = known_all n

pub known_state : GridLaws LookView → (abilities : Abilities) (memory : MemoryView) → IsGrid abilities.rows abilities.columns memory.state.grid → (old : TerminalState) → Agrees abilities memory old → is_known memory ≡ true → memory.state ≡ old
known_state grids abilities memory whole old agrees e =
    let most = both (list_all (λ known. known) memory.known_rows && memory.known_spot) memory.known_pen e in
    let parts = both (list_all (λ known. known) memory.known_rows) memory.known_spot most.0 in
    let rows : (r : ℕ) → r < abilities.rows → grid_row memory.state.grid r ≡ grid_row old.grid r = λ r h. sym (agrees.rows r h (all_known memory.known_rows r parts.0 (omega (arith, h, agrees.high)))) in
    let grid : memory.state.grid ≡ old.grid =
    grids.places blank abilities.rows abilities.columns memory.state.grid whole
    ∙ grid_same abilities.rows abilities.columns (grid_at blank memory.state.grid) (grid_at blank old.grid) (λ r c high wide. ap (λ line. get_or line c blank) (rows r high))
    ∙ sym (grids.places blank abilities.rows abilities.columns old.grid agrees.is_state.whole) in
    let spot : old.spot ≡ memory.state.spot = agrees.spot parts.1 in
    let pen : old.pen ≡ memory.state.pen = agrees.pen most.1 in
    λ i. record { grid = grid i; spot = sym spot i; pen = sym pen i }

same_some : (a b : TerminalState) → Some a ≡ Some b → a ≡ b
same_some a b e = (cc)

stepped_agrees : StepsKeepStates → GridLaws LookView → (profile : ProfileView) → IsProfile profile → (memory : MemoryView) → MayBe (abilities profile) memory → (old new : TerminalState) (op : Op)
    → Agrees (abilities profile) memory old → step profile old op ≡ Some new → (next : Option TerminalState) → step profile memory.state op ≡ next
    → Agrees (abilities profile) (stepped (abilities profile) op memory next) new
stepped_agrees keep grids profile p memory may old new op agrees e None n =
    forgets (abilities profile) memory new agrees.high (keep profile p old new agrees.is_state op e)
stepped_agrees keep grids profile p memory may old new op agrees e (Some next) n =
    let new_is : IsState (abilities profile) new = keep profile p old new agrees.is_state op e in
    let next_is : IsState (abilities profile) next = keep profile p memory.state next may.state op n in
    let a : Acts profile op old.grid old.spot old.pen new = acts profile op old.grid old.spot old.pen new (had profile old new op e) in
    let b : Acts profile op memory.state.grid memory.state.spot memory.state.pen next = acts profile op memory.state.grid memory.state.spot memory.state.pen next (had profile memory.state next op n) in
    let same : is_known memory ≡ true → new ≡ next = λ known. same_some new next (sym e ∙ ap (λ s. step profile s op) (sym (known_state grids (abilities profile) memory may.state.whole old agrees known)) ∙ n) in
    record {
      is_state = new_is;
      high = high_after op next.spot memory (clears op) (loses_rows op memory) ∙ agrees.high;
      rows = λ r h known. rows_after profile memory may old new next op agrees a b same r h (clears op) (changes_cells op) (memory.known_spot && memory.known_pen) (moves_rows op) (is_known memory) refl refl refl refl refl known;
      spot = λ known. a.spot_is ∙ either memory.known_spot (places_spot op) known
          (λ k. ap (spot_by profile.columns op) (agrees.spot k))
          (λ k. placed_same profile.columns op old.spot memory.state.spot k) ∙ sym b.spot_is;
      pen = λ known. either (memory.known_pen || sets_pen op) (has_one_pen (abilities profile)) known
          (λ some. a.pen_is ∙ either memory.known_pen (sets_pen op) some (λ k. ap (pen_by op) (agrees.pen k)) (λ k. pen_same op old.pen memory.state.pen k) ∙ sym b.pen_is)
          (λ one. one_pen (abilities profile) new.pen one new_is.pen ∙ sym (one_pen (abilities profile) next.pen one next_is.pen));
    }

pub follows : StepsKeepStates → GridLaws LookView → (profile : ProfileView) → IsProfile profile → (memory : MemoryView) → MayBe (abilities profile) memory → (old new : TerminalState) (op : Op)
    → Agrees (abilities profile) memory old → step profile old op ≡ Some new → Agrees (abilities profile) (followed profile op memory) new
follows keep grids profile p memory may old new op agrees e = stepped_agrees keep grids profile p memory may old new op agrees e (step profile memory.state op) refl

still_set : (rows : List Bool) (r : ℕ) → list_all (λ known. known) rows ≡ true → list_all (λ known. known) (set rows r true) ≡ true
still_set [] r e = refl
still_set (known ∷ rows) zero e = (both known (list_all (λ known. known) rows) e).1
still_set (true ∷ rows) (suc r) e = still_set rows r e
still_set (false ∷ rows) (suc r) e = (cc)

still_erased : (op : Op) (spot : Spot) (rows : List Bool) → list_all (λ known. known) rows ≡ true → list_all (λ known. known) (rows_erased op spot rows) ≡ true
still_erased EraseLine (At r zero) rows e = still_set rows r e
still_erased EraseLine (At r (suc c)) rows e = e
still_erased EraseLine (Margin r) rows e = e
still_erased EraseBelow (At r zero) rows e = ap (list_all (λ known. known)) (from_kept r rows e) ∙ e
still_erased EraseBelow (At r (suc c)) rows e = e
still_erased EraseBelow (Margin r) rows e = e
still_erased op spot rows e = e

-- where all is known no row is lost
none_lost : (op : Op) (memory : MemoryView) → memory.known_spot ≡ true → memory.known_pen ≡ true → is_known memory ≡ true → loses_rows op memory ≡ false
none_lost op memory spot pen known = (λ i. (changes_cells op && not (spot i && pen i)) || (moves_rows op && not (known i))) ∙ neither_lost (changes_cells op) (moves_rows op)
  where
    neither_lost : (a b : Bool) → ((a && false) || (b && false)) ≡ false
    neither_lost true true = refl
    neither_lost true false = refl
    neither_lost false true = refl
    neither_lost false false = refl

still_known : (op : Op) (spot : Spot) (memory : MemoryView) (a c d : Bool) → loses_rows op memory ≡ false → list_all (λ known. known) memory.known_rows ≡ true → memory.known_spot ≡ true → memory.known_pen ≡ true
    → (list_all (λ known. known) (if a then replicate (length memory.known_rows) true else (if loses_rows op memory then replicate (length memory.known_rows) false else rows_erased op spot memory.known_rows))
    && (memory.known_spot || c) && (memory.known_pen || sets_pen op || d)) ≡ true
still_known op s memory a c d lost rows spot pen =
    (λ i. list_all (λ known. known) (if a then replicate (length memory.known_rows) true else (if lost i then replicate (length memory.known_rows) false else rows_erased op s memory.known_rows)) && (spot i || c) && (pen i || sets_pen op || d))
    ∙ ap (λ x. x && true && true) (by a)
  where
    by : (a : Bool) → list_all (λ known. known) (if a then replicate (length memory.known_rows) true else rows_erased op s memory.known_rows) ≡ true
    by true = known_all (length memory.known_rows)
    by false = still_erased op s memory.known_rows rows

pub stays_known : GridLaws LookView → (profile : ProfileView) → IsProfile profile → (memory : MemoryView) → MayBe (abilities profile) memory → (old new : TerminalState) (op : Op)
    → Agrees (abilities profile) memory old → step profile old op ≡ Some new → is_known memory ≡ true → is_known (followed profile op memory) ≡ true
stays_known grids profile p memory may old new op agrees e known =
    let same : memory.state ≡ old = known_state grids (abilities profile) memory may.state.whole old agrees known in
    let there : step profile memory.state op ≡ Some new = ap (λ s. step profile s op) same ∙ e in
    let most = both (list_all (λ known. known) memory.known_rows && memory.known_spot) memory.known_pen known in
    let parts = both (list_all (λ known. known) memory.known_rows) memory.known_spot most.0 in
    ap (λ next. is_known (stepped (abilities profile) op memory next)) there
    ∙ still_known op new.spot memory (clears op) (places_spot op) (has_one_pen (abilities profile)) (none_lost op memory parts.1 most.1 known) parts.0 parts.1 most.1

-- a remembered state that is possible stays possible
stays_possible : ShownPenLaws → StepsKeepStates → (profile : ProfileView) → IsProfile profile → (memory : MemoryView) (op : Op) → MayBe (abilities profile) memory → MayBe (abilities profile) (followed profile op memory)
stays_possible pens keep profile p memory op may = by (step profile memory.state op) refl
  where
    by : (next : Option TerminalState) → step profile memory.state op ≡ next → MayBe (abilities profile) (stepped (abilities profile) op memory next)
    by None e = forgotten_possible pens (abilities profile) memory may
    by (Some next) e = record {
      state = keep profile p memory.state next may.state op e;
      high = high_after op next.spot memory (clears op) (loses_rows op memory) ∙ may.high;
    }

pub memory_laws : ShownPenLaws → StepsKeepStates → GridLaws LookView → MemoryLaws
memory_laws pens keep grids = record {
  follows = follows keep grids;
  stays_known = stays_known grids;
  stays_possible = stays_possible pens keep;
  itself = itself;
  forgets = forgets;
  forgotten_possible = forgotten_possible pens;
  possible_again = possible_again pens;
  disturbed_possible = disturbed_possible pens;
  others = others;
  marks = marks;
  marks_join = marks_join;
}
