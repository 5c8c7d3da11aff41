-- Lists by place.
use Rattle.std.proofs.Common.{◌≡◌, ◌≢◌, ◌∙◌, ℕ, zero, suc, ◌+◌, ◌≤◌, ◌<◌, List, [], ◌∷◌, ◌++◌, Some, None, slice_get, set, get_or, take, drop, length, reverse, refl, ap, arith, append-nil, add-one, ◌⊎◌, inl, inr}
use Rattle.std.proofs.lemmas.List.{drop_all, reverse-append, take_all}

pub reverse-push : {A : Type 0} → (xs : List A) (x : A) → reverse (xs ++ x ∷ []) ≡ x ∷ reverse xs
reverse-push xs x = reverse-append xs (x ∷ [])

pub get-cases : {A : Type 0} → (xs : List A) (i : ℕ) (x : A) (j : ℕ) (y : A) → slice_get (set xs i x) j ≡ Some y → ((j ≡ i) × (y ≡ x)) ⊎ ((j ≢ i) × (slice_get xs j ≡ Some y))
get-cases [] i x j y e = cc
get-cases (z ∷ zs) zero x zero y e = let same : y ≡ x = cc in inl (refl, same)
get-cases (z ∷ zs) zero x (suc j) y e = inr ((λ p. absurd (omega arith)), e)
get-cases (z ∷ zs) (suc i) x zero y e = inr ((λ p. absurd (omega arith)), e)
get-cases (z ∷ zs) (suc i) x (suc j) y e =
    elim (get-cases zs i x j y e) [
      | inl h ↦ inl (ap suc h.0, h.1)
      | inr h ↦ inr ((λ p. h.0 (omega arith)), h.1)
    ]

pub get-set : {A : Type 0} → (xs : List A) (i : ℕ) (x y : A) → slice_get xs i ≡ Some y → slice_get (set xs i x) i ≡ Some x
get-set [] i x y e = cc
get-set (z ∷ zs) zero x y e = refl
get-set (z ∷ zs) (suc i) x y e = get-set zs i x y e

pub get-other : {A : Type 0} → (xs : List A) (i j : ℕ) (x : A) → j ≢ i → slice_get (set xs i x) j ≡ slice_get xs j
get-other [] i j x ne = refl
get-other (z ∷ zs) zero zero x ne = absurd (ne refl)
get-other (z ∷ zs) zero (suc j) x ne = refl
get-other (z ∷ zs) (suc i) zero x ne = refl
get-other (z ∷ zs) (suc i) (suc j) x ne = get-other zs i j x (λ e. ne (ap suc e))

pub get-within : {A : Type 0} → (xs : List A) (i : ℕ) → i < length xs → (x : A) × (slice_get xs i ≡ Some x)
get-within [] i lt = absurd (omega arith)
get-within (x ∷ xs) zero lt = (x, refl)
get-within (x ∷ xs) (suc i) lt = get-within xs i (omega arith)

pub get-lt : {A : Type 0} → (xs : List A) (i : ℕ) (x : A) → slice_get xs i ≡ Some x → i < length xs
get-lt [] i x e = cc
get-lt (y ∷ ys) zero x e = omega arith
get-lt (y ∷ ys) (suc i) x e = let h = get-lt ys i x e in omega arith

pub get-push : {A : Type 0} → (xs : List A) (x : A) → slice_get (xs ++ x ∷ []) (length xs) ≡ Some x
get-push [] x = refl
get-push (y ∷ ys) x = get-push ys x

pub get-append : {A : Type 0} → (xs ys : List A) (i : ℕ) (x : A) → slice_get xs i ≡ Some x → slice_get (xs ++ ys) i ≡ Some x
get-append [] ys i x e = cc
get-append (z ∷ zs) ys zero x e = e
get-append (z ∷ zs) ys (suc i) x e = get-append zs ys i x e

pub get-none : {A : Type 0} → (xs : List A) (i : ℕ) → slice_get xs i ≡ None → length xs ≤ i
get-none [] i e = omega arith
get-none (x ∷ xs) zero e = cc
get-none (x ∷ xs) (suc i) e = let h = get-none xs i e in omega arith

pub get-is : {A : Type 0} → (xs : List A) (i : ℕ) (x y : A) → x ≡ get_or xs i x → slice_get xs i ≡ Some y → x ≡ y
get-is [] i x y is at = cc
get-is (z ∷ zs) zero x y is at = let same : z ≡ y = cc in is ∙ same
get-is (z ∷ zs) (suc i) x y is at = get-is zs i x y is at

pub drop-at : {A : Type 0} → (xs : List A) (i : ℕ) (x : A) → slice_get xs i ≡ Some x → drop i xs ≡ x ∷ drop (i + 1) xs
drop-at [] i x e = cc
drop-at (y ∷ ys) zero x e = let same : y ≡ x = cc in ap (λ z. z ∷ ys) same
drop-at (y ∷ ys) (suc i) x e = rw add-one (rw add-one at (drop-at ys i x e))

pub take-at : {A : Type 0} → (xs : List A) (i : ℕ) (x : A) → slice_get xs i ≡ Some x → take (i + 1) xs ≡ take i xs ++ x ∷ []
take-at [] i x e = cc
take-at (y ∷ ys) zero x e = let same : y ≡ x = cc in rw same refl
take-at (y ∷ ys) (suc i) x e = rw add-one (ap (λ zs. y ∷ zs) (rw add-one at (take-at ys i x e)))

-- what was lent whole and is put back
pub written-back : {A : Type 0} → (n : ℕ) (xs ys : List A) → n ≡ length ys → length xs ≡ length ys → take n (xs ++ drop (length xs) ys) ≡ xs
written-back n xs ys all same =
    ap (λ zs. take n (xs ++ zs)) (drop_all (length xs) ys (omega arith)) ∙ ap (take n) (append-nil xs) ∙ take_all n xs (omega arith)
