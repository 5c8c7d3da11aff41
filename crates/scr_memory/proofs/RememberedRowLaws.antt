-- Rows that are known, as lists of truth values.
use Rattle.std.proofs.Common.{◌≡◌, ◌≢◌, ◌⊎◌, inl, inr, ℕ, zero, suc, ◌+◌, ◌-◌, ◌<◌, ◌≤◌, ◌&&◌, Bool, true, false, sym, ◌∙◌, ap, refl, arith, List, [], ◌∷◌, ◌++◌, length, set, get_or, cond, leb, ltb, drop, replicate}
use Rattle.std.specs.List.{list_all}
use Rattle.std.proofs.lemmas.Bool.Decides.{nat_tests}
use Rattle.std.proofs.lemmas.List.{same_lists, get_or_default, get_or-replicate, get_or-set_same, get_or-set_other, length-set, append_assoc, drop_more, length-replicate, replicate_more, set-append_right}
use Rattle.std.proofs.lemmas.List.FromFn.{get_or-map-range_with_len, length-map-range_with_len}
use Rattle.scr_memory.specs.Code.Remembering.{with_run}
use Rattle.scr_memory.specs.Memories.{known_from}

-- ---- all of them are known, or none

-- one more of them is
pub one_more : (rows : List Bool) (n : ℕ) (known : Bool) → n < length rows → set (replicate n known ++ drop n rows) n known ≡ replicate (n + 1) known ++ drop (n + 1) rows
one_more rows n known h =
    let z : n - n ≡ 0 = omega arith in
    set-append_right (replicate n known) (drop n rows) n n known (length-replicate n known) (omega arith)
    ∙ (λ i. replicate n known ++ set (drop_more rows n known h i) (z i) known)
    ∙ sym (append_assoc (replicate n known) (known ∷ []) (drop (n + 1) rows)) ∙ ap (λ xs. xs ++ drop (n + 1) rows) (replicate_more n known)

-- where there is a row, all are known just where they all are
pub all_are : (n : ℕ) (known : Bool) → 1 ≤ n → list_all (λ k. k) (replicate n known) ≡ known
all_are zero known some = absurd (omega (arith, some))
all_are (suc n) false some = refl
all_are (suc n) true some = every n
  where
    every : (m : ℕ) → list_all (λ k. k) (replicate m true) ≡ true
    every zero = refl
    every (suc m) = every m

-- rows that are all known are so many times true
pub all_true : (rows : List Bool) → list_all (λ known. known) rows ≡ true → rows ≡ replicate (length rows) true
all_true [] e = refl
all_true (true ∷ rows) e = ap (λ more. true ∷ more) (all_true rows e)
all_true (false ∷ rows) e = (cc)

-- ---- those of a run are known, or are not

same_or_not : (a b : ℕ) → (a ≡ b) ⊎ (a ≢ b)
same_or_not a b = grind arith

with_at : (known : Bool) (first end : ℕ) (rows : List Bool) (r : ℕ) (d : Bool) → r < length rows → get_or (with_run known first end rows) r d ≡ cond (leb first r && ltb r end) known (get_or rows r false)
with_at known first end rows r d h = get_or-map-range_with_len (λ k. cond (leb first k && ltb k end) known (get_or rows k false)) 0 (length rows) r r d h (omega arith)

as_many : (known : Bool) (first end : ℕ) (rows : List Bool) → length (with_run known first end rows) ≡ length rows
as_many known first end rows = length-map-range_with_len _ 0 (length rows)

are_with : (known : Bool) (first end : ℕ) (rows new : List Bool) → length new ≡ length rows
    → ((r : ℕ) (d : Bool) → r < length rows → get_or new r d ≡ cond (leb first r && ltb r end) known (get_or rows r false)) → new ≡ with_run known first end rows
are_with known first end rows new len same =
    same_lists new (with_run known first end rows) (len ∙ sym (as_many known first end rows)) (λ r d h. same r d (omega (arith, len)) ∙ sym (with_at known first end rows r d (omega (arith, len))))

-- none of them yet
pub none_with : (known : Bool) (first : ℕ) (rows : List Bool) → rows ≡ with_run known first first rows
none_with known first rows =
    are_with known first first rows rows refl (λ r d h. get_or_default rows r d false h ∙ sym (ap (λ t. cond t known (get_or rows r false)) (none first r)))
  where
    none : (first r : ℕ) → (leb first r && ltb r first) ≡ false
    none first r = grind (arith, nat_tests)

-- one more of them
pub one_with : (known : Bool) (first row : ℕ) (rows : List Bool) → first ≤ row → row < length rows → set (with_run known first row rows) row known ≡ with_run known first (row + 1) rows
one_with known first row rows order inside =
    let before : List Bool = with_run known first row rows in
    let len : length before ≡ length rows = as_many known first row rows in
    are_with known first (row + 1) rows (set before row known) (length-set before row known ∙ len) (λ r d h.
    elim (same_or_not r row) [
      | inl e ↦ ap (λ n. get_or (set before row known) n d) e ∙ get_or-set_same before row known d (omega (arith, len, inside)) ∙ sym (ap (λ t. cond t known (get_or rows r false)) (here first row r e order))
      | inr n ↦ get_or-set_other before row r known d n ∙ with_at known first row rows r d h ∙ ap (λ t. cond t known (get_or rows r false)) (other first row r n)
    ])
  where
    here : (first row r : ℕ) → r ≡ row → first ≤ row → (leb first r && ltb r (row + 1)) ≡ true
    here first row r e order = grind (arith, nat_tests)

    other : (first row r : ℕ) → r ≢ row → (leb first r && ltb r row) ≡ (leb first r && ltb r (row + 1))
    other first row r n = grind (arith, nat_tests)

-- two runs that tell the rows there are alike
pub with_alike : (known : Bool) (first end from to : ℕ) (rows : List Bool) → ((r : ℕ) → r < length rows → (leb from r && ltb r to) ≡ (leb first r && ltb r end)) → with_run known from to rows ≡ with_run known first end rows
with_alike known first end from to rows alike =
    are_with known first end rows (with_run known from to rows) (as_many known from to rows)
    (λ r d h. with_at known from to rows r d h ∙ ap (λ t. cond t known (get_or rows r false)) (alike r h))

-- ---- all from one on are known

from_at : (first : ℕ) (rows : List Bool) (r : ℕ) (d : Bool) → r < length rows → get_or (known_from first rows) r d ≡ cond (leb first r) true (get_or rows r false)
from_at first rows r d h = get_or-map-range_with_len (λ k. cond (leb first k) true (get_or rows k false)) 0 (length rows) r r d h (omega arith)

pub from_as_many : (first : ℕ) (rows : List Bool) → length (known_from first rows) ≡ length rows
from_as_many first rows = length-map-range_with_len _ 0 (length rows)

-- a row that is known is there
there : (rows : List Bool) (r : ℕ) → get_or rows r false ≡ true → r < length rows
there [] r e = (cc)
there (row ∷ rows) zero e = omega arith
there (row ∷ rows) (suc r) e = omega (arith, there rows r e)

always : (b : Bool) → cond b true true ≡ true
always true = refl
always false = refl

-- rows that were known are
pub from_stays : (first : ℕ) (rows : List Bool) (r : ℕ) → get_or rows r false ≡ true → get_or (known_from first rows) r false ≡ true
from_stays first rows r e = from_at first rows r false (there rows r e) ∙ ap (cond (leb first r) true) e ∙ always (leb first r)

-- rows from that one on are
pub from_known : (first : ℕ) (rows : List Bool) (r : ℕ) → leb first r ≡ true → r < length rows → get_or (known_from first rows) r false ≡ true
from_known first rows r low h = from_at first rows r false h ∙ ap (λ b. cond b true (get_or rows r false)) low

-- rows above it are only if they were
pub from_above : (first : ℕ) (rows : List Bool) (r : ℕ) → leb first r ≡ false → get_or (known_from first rows) r false ≡ true → get_or rows r false ≡ true
from_above first rows r above e =
    let h : r < length rows = omega (arith, there (known_from first rows) r e, from_as_many first rows) in
    sym (from_at first rows r false h ∙ ap (λ b. cond b true (get_or rows r false)) above) ∙ e

-- where all were, nothing changes
pub from_kept : (first : ℕ) (rows : List Bool) → list_all (λ known. known) rows ≡ true → known_from first rows ≡ rows
from_kept first rows e = same_lists (known_from first rows) rows (from_as_many first rows) (λ r d h. by r d (omega (arith, h, from_as_many first rows)))
  where
    by : (r : ℕ) (d : Bool) → r < length rows → get_or (known_from first rows) r d ≡ get_or rows r d
    by r d h =
        let each : (d : Bool) → get_or rows r d ≡ true = λ d. ap (λ xs. get_or xs r d) (all_true rows e) ∙ get_or-replicate (length rows) r true d h in
        from_at first rows r d h ∙ ap (cond (leb first r) true) (each false) ∙ always (leb first r) ∙ sym (each d)

-- they are a run of them
pub from_is_run : (first from : ℕ) (rows : List Bool) → ((r : ℕ) → r < length rows → leb from r ≡ leb first r) → with_run true from (length rows) rows ≡ known_from first rows
from_is_run first from rows alike =
    same_lists (with_run true from (length rows) rows) (known_from first rows) (as_many true from (length rows) rows ∙ sym (from_as_many first rows)) (λ r d h. by r d (omega (arith, h, as_many true from (length rows) rows)))
  where
    within : (r n : ℕ) (b : Bool) → r < n → (b && ltb r n) ≡ b
    within r n true h = grind (arith, nat_tests)
    within r n false h = refl

    by : (r : ℕ) (d : Bool) → r < length rows → get_or (with_run true from (length rows) rows) r d ≡ get_or (known_from first rows) r d
    by r d h =
        with_at true from (length rows) rows r d h
        ∙ ap (λ t. cond t true (get_or rows r false)) (within r (length rows) (leb from r) h ∙ alike r h)
        ∙ sym (from_at first rows r d h)
