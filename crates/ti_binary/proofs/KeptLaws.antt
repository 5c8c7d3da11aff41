-- A list up to the last of its elements that is present.
use Rattle.std.proofs.Common.{◌≡◌, ℕ, ◌+◌, ◌<◌, ◌||◌, Bool, true, false, cond, refl, sym, ◌∙◌, ap, List, [], ◌∷◌, ◌++◌, length, take, get_or, Option, Some, None, is_some, option_map, arith}
use Rattle.std.specs.List.{list_any}
use Rattle.std.proofs.lemmas.List.{take_more, take_all}
use Rattle.std.proofs.lemmas.List.Folds.{list_any-append}
use Rattle.ti_binary.specs.Canonical.{up_to_last}

or-false : (b : Bool) → (b || false) ≡ b
or-false true = refl
or-false false = refl

or-true : (b : Bool) → (b || true) ≡ true
or-true true = refl
or-true false = refl

-- one more that is absent changes nothing
pub kept-absent : {A : Type 0} (present : A → Bool) (xs : List A) (x : A) → present x ≡ false → up_to_last present (xs ++ x ∷ []) ≡ up_to_last present xs
kept-absent present [] x h = rw h refl
kept-absent present (y ∷ ys) x h =
    let none : list_any present (ys ++ x ∷ []) ≡ list_any present ys =
    list_any-append present ys (x ∷ []) ∙ ap (λ b. list_any present ys || (b || false)) h ∙ or-false (list_any present ys) in
    ap (λ b. cond (present y || b) (y ∷ up_to_last present (ys ++ x ∷ [])) []) none
    ∙ ap (λ zs. cond (present y || list_any present ys) (y ∷ zs) []) (kept-absent present ys x h)

-- with one more that is present all is kept
pub kept-present : {A : Type 0} (present : A → Bool) (xs : List A) (x : A) → present x ≡ true → up_to_last present (xs ++ x ∷ []) ≡ xs ++ x ∷ []
kept-present present [] x h = rw h refl
kept-present present (y ∷ ys) x h =
    let some : list_any present (ys ++ x ∷ []) ≡ true =
    list_any-append present ys (x ∷ []) ∙ ap (λ b. list_any present ys || (b || false)) h ∙ or-true (list_any present ys) in
    ap (λ b. cond (present y || b) (y ∷ up_to_last present (ys ++ x ∷ [])) []) some
    ∙ ap (λ b. cond b (y ∷ up_to_last present (ys ++ x ∷ [])) []) (or-true (present y))
    ∙ ap (λ zs. y ∷ zs) (kept-present present ys x h)

pub kept_same : {A : Type 0} (present : A → Bool) (xs : List A) (i count : ℕ) (d : A) → i < length xs → take count xs ≡ up_to_last present (take i xs)
    → present (get_or xs i d) ≡ false → take count xs ≡ up_to_last present (take (i + 1) xs)
kept_same present xs i count d lt e h =
    e ∙ sym (kept-absent present (take i xs) (get_or xs i d) h) ∙ ap (up_to_last present) (sym (take_more xs i d lt))

pub kept_all : {A : Type 0} (present : A → Bool) (xs : List A) (i : ℕ) (d : A) → i < length xs
    → present (get_or xs i d) ≡ true → take (i + 1) xs ≡ up_to_last present (take (i + 1) xs)
kept_all present xs i d lt h =
    take_more xs i d lt ∙ sym (kept-present present (take i xs) (get_or xs i d) h) ∙ ap (up_to_last present) (sym (take_more xs i d lt))

-- from the end: where the last is present all is kept, else as much as without it
pub kept_here : {A : Type 0} (present : A → Bool) (xs : List A) (i count : ℕ) (d : A) → count ≡ i + 1 → i < length xs → present (get_or xs i d) ≡ true
    → up_to_last present (take count xs) ≡ up_to_last present xs → take count xs ≡ up_to_last present xs
kept_here present xs i count d is lt h same =
    ap (λ n. take n xs) is ∙ kept_all present xs i d lt h ∙ ap (λ n. up_to_last present (take n xs)) (sym is) ∙ same

pub kept_before : {A : Type 0} (present : A → Bool) (xs : List A) (i count : ℕ) (d : A) → count ≡ i + 1 → i < length xs → present (get_or xs i d) ≡ false
    → up_to_last present (take count xs) ≡ up_to_last present xs → up_to_last present (take i xs) ≡ up_to_last present xs
kept_before present xs i count d is lt h same =
    sym (kept-absent present (take i xs) (get_or xs i d) h) ∙ ap (up_to_last present) (sym (take_more xs i d lt)) ∙ ap (λ n. up_to_last present (take n xs)) (sym is) ∙ same

pub whole-kept : {A : Type 0} (present : A → Bool) (xs : List A) (n : ℕ) → length xs ≡ n → up_to_last present (take n xs) ≡ up_to_last present xs
whole-kept present xs n is = ap (up_to_last present) (take_all n xs (omega arith))

pub is_some-option_map : {A B : Type 0} (f : A → B) (o : Option A) → is_some (option_map f o) ≡ is_some o
is_some-option_map f None = refl
is_some-option_map f (Some x) = refl
