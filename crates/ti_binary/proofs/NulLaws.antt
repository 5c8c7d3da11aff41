-- Where the last NUL of some bytes is.
use Rattle.std.proofs.Common.{◌≡◌, ℕ, ◌+◌, ◌-◌, ◌<◌, ◌≤◌, ◌&&◌, not, Bool, true, false, refl, sym, ◌∙◌, ap, arith, zero, suc, nat_lt, List, [], ◌∷◌, length, take, drop, length-drop, get_or, Some, None, if◌then◌else◌}
use Rattle.std.specs.List.{list_any}
use Rattle.ti_binary.specs.Files.{is_negative, is_nul, is_outside, is_unended, offsets_refusal}
use Rattle.ti_binary.specs.declared.faults.BinFault.TheVariants.{BadOffset, Unended}
use Rattle.std.proofs.lemmas.Bool.{or_from, or_parts}
use Rattle.std.proofs.lemmas.Bool.Decides.{nat_tests}
use Rattle.std.proofs.lemmas.List.{get_or-drop, length-take-le}
use Rattle.std.proofs.lemmas.List.Folds.{list_any_at}

drop_none : {A : Type 0} (p : A → Bool) (k : ℕ) → list_any p (drop k []) ≡ false
drop_none p zero = refl
drop_none p (suc k) = refl

-- where none passes from a place on, none does further on
none_behind : {A : Type 0} (p : A → Bool) (xs : List A) (e k : ℕ) → e ≤ k → list_any p (drop e xs) ≡ false → list_any p (drop k xs) ≡ false
none_behind p [] e k le none = drop_none p k
none_behind p (x ∷ xs) zero zero le none = none
none_behind p (x ∷ xs) zero (suc k) le none = none_behind p xs zero k (omega arith) (or_parts (p x) (list_any p xs) none).1
none_behind p (x ∷ xs) (suc e) zero le none = absurd (omega arith)
none_behind p (x ∷ xs) (suc e) (suc k) le none = none_behind p xs e k (omega arith) none

-- one passes from each place on that is before one that does
some_before : {A : Type 0} (p : A → Bool) (xs : List A) (e k : ℕ) (d : A) → k < e → e ≤ length xs → p (get_or xs (e - 1) d) ≡ true → list_any p (drop k xs) ≡ true
some_before p xs e k d lt le here =
    let i : ℕ = e - 1 - k in
    let at : k + i ≡ e - 1 = omega (arith, lt) in
    list_any_at p (drop k xs) i d (omega (arith, lt, le, length-drop k xs)) (ap p (get_or-drop k xs i d ∙ ap (λ n. get_or xs n d) at) ∙ here)

-- the last that passes is the one before a place
pub last_before : {A : Type 0} (p : A → Bool) (xs : List A) (e : ℕ) (d : A) → 0 < e → e ≤ length xs → p (get_or xs (e - 1) d) ≡ true → list_any p (drop e xs) ≡ false
    → (k : ℕ) → nat_lt k (length (take e xs)) ≡ list_any p (drop k xs)
last_before {A} p xs e d some le here none k =
    ap (nat_lt k) (length-take-le e xs le) ∙ sym (test (nat_lt k e) refl)
  where
    test : (b : Bool) → nat_lt k e ≡ b → list_any p (drop k xs) ≡ b
    test true below = some_before p xs e k d (grind (arith, nat_tests, below)) le here
    test false above = none_behind p xs e k (grind (arith, nat_tests, above)) none

-- none passes
pub none_at_all : {A : Type 0} (p : A → Bool) (xs : List A) (e : ℕ) → e ≤ 0 → list_any p (drop e xs) ≡ false → (k : ℕ) → nat_lt k 0 ≡ list_any p (drop k xs)
none_at_all p xs e le none k =
    let never : nat_lt k 0 ≡ false = grind (arith, nat_tests) in
    never ∙ sym (none_behind p xs e k (omega (arith, le)) none)

none_past : {A : Type 0} (p : A → Bool) (xs : List A) (k : ℕ) → length xs ≤ k → list_any p (drop k xs) ≡ false
none_past p [] k le = drop_none p k
none_past p (x ∷ xs) zero le = absurd (omega (arith, le))
none_past p (x ∷ xs) (suc k) le = none_past p xs k (omega (arith, le))

-- an offset whose text has a NUL is inside the table
inside_if_ended : (negative ended inside : Bool) → (inside ≡ false → ended ≡ false) → (not negative && not ended) ≡ false → (not negative && not inside) ≡ false
inside_if_ended true ended inside both e = refl
inside_if_ended false ended true both e = refl
inside_if_ended false ended false both e = ap not (sym (both refl)) ∙ e

pub all_inside : (table offsets : List ℕ) → list_any (is_unended table) offsets ≡ false → list_any (is_outside table) offsets ≡ false
all_inside table [] none = refl
all_inside table (offset ∷ offsets) none =
    let parts = or_parts (is_unended table offset) (list_any (is_unended table) offsets) none in
    or_from (is_outside table offset) (list_any (is_outside table) offsets)
    (inside_if_ended (is_negative offset) (list_any is_nul (drop offset table)) (nat_lt offset (length table))
    (λ above. none_past is_nul table offset (grind (arith, nat_tests, above))) parts.0)
    (all_inside table offsets parts.1)

no_refusal : (outside unended : Bool) → outside ≡ false → unended ≡ false → (if outside then Some BadOffset else (if unended then Some Unended else None)) ≡ None
no_refusal outside unended a b = rw (a, b) refl

pub none_refused : (table offsets : List ℕ) → list_any (is_unended table) offsets ≡ false → offsets_refusal table offsets ≡ None
none_refused table offsets none =
    no_refusal (list_any (is_outside table) offsets) (list_any (is_unended table) offsets) (all_inside table offsets none) none
