-- Where two rows differ: lanes, and places one after another.
use Rattle.std.proofs.Common.{◌≡◌, ◌≢◌, ◌⊎◌, inl, inr, ℕ, zero, suc, Bool, true, false, not, ◌+◌, ◌-◌, ◌*◌, ◌%◌, ◌<◌, ◌≤◌, sym, ◌∙◌, ap, refl, arith, nat_eq, List, [], ◌∷◌, length, get_or, cond, drop, take, map}
use Rattle.std.proofs.lemmas.Bool.{eqb-true}
use Rattle.std.proofs.lemmas.List.{get_or-drop, get_or-take, get_or_default}
use Rattle.std.proofs.lemmas.Simd.{length-zip2, mask_l-mod, tops_compared}
use Rattle.std.proofs.Math.Dec.{eqb}
use Rattle.std.specs.Simd.Lanes.{mask_l, top, zip2}
use Rattle.std.proofs.Common.{w32}
use Rattle.scr_cells.specs.Code.Lanes.{HasEight}
use Rattle.scr_cells.specs.Differences.{IsSameAt, DiffersAt}

less_or_not : (a b : ℕ) → (a < b) ⊎ (b ≤ a)
less_or_not a b = grind arith

-- what holds of each of eight places
pub eight_places : (P : ℕ → Type 0) → P 0 → P 1 → P 2 → P 3 → P 4 → P 5 → P 6 → P 7 → (k : ℕ) → k < 8 → P k
eight_places P a b c d e f g h zero l = a
eight_places P a b c d e f g h (suc zero) l = b
eight_places P a b c d e f g h (suc (suc zero)) l = c
eight_places P a b c d e f g h (suc (suc (suc zero))) l = d
eight_places P a b c d e f g h (suc (suc (suc (suc zero)))) l = e
eight_places P a b c d e f g h (suc (suc (suc (suc (suc zero))))) l = f
eight_places P a b c d e f g h (suc (suc (suc (suc (suc (suc zero)))))) l = g
eight_places P a b c d e f g h (suc (suc (suc (suc (suc (suc (suc zero))))))) l = h
eight_places P a b c d e f g h (suc (suc (suc (suc (suc (suc (suc (suc k)))))))) l = absurd (let z : ⊥ = omega (arith, l) in z)

-- an element of eight that were lent of a row
lent_of : {A : Type 0} (coded : ℕ → A) (row : List A) (at k p : ℕ) (x : A) → k < 8 → at + 8 ≤ length row → coded p ≡ x → x ≡ get_or (take (at + 8 - at) (drop at row)) k x → (other : A) → get_or row (at + k) other ≡ coded p
lent_of coded row at k p x h l back is other =
    let here : x ≡ get_or row (at + k) x = is ∙ get_or-take (at + 8 - at) (drop at row) k x (omega arith) ∙ get_or-drop at row k x in
    sym (back ∙ here ∙ get_or_default row (at + k) x other (omega arith))

pub eight_are : {A : Type 0} (coded : ℕ → A) (row : List A) (at p0 p1 p2 p3 p4 p5 p6 p7 : ℕ) (x0 x1 x2 x3 x4 x5 x6 x7 : A) → at + 8 ≤ length row
    → coded p0 ≡ x0 → x0 ≡ get_or (take (at + 8 - at) (drop at row)) 0 x0 → coded p1 ≡ x1 → x1 ≡ get_or (take (at + 8 - at) (drop at row)) 1 x1
    → coded p2 ≡ x2 → x2 ≡ get_or (take (at + 8 - at) (drop at row)) 2 x2 → coded p3 ≡ x3 → x3 ≡ get_or (take (at + 8 - at) (drop at row)) 3 x3
    → coded p4 ≡ x4 → x4 ≡ get_or (take (at + 8 - at) (drop at row)) 4 x4 → coded p5 ≡ x5 → x5 ≡ get_or (take (at + 8 - at) (drop at row)) 5 x5
    → coded p6 ≡ x6 → x6 ≡ get_or (take (at + 8 - at) (drop at row)) 6 x6 → coded p7 ≡ x7 → x7 ≡ get_or (take (at + 8 - at) (drop at row)) 7 x7
    → HasEight coded row at (p0 ∷ p1 ∷ p2 ∷ p3 ∷ p4 ∷ p5 ∷ p6 ∷ p7 ∷ [])
eight_are {A} coded row at p0 p1 p2 p3 p4 p5 p6 p7 x0 x1 x2 x3 x4 x5 x6 x7 l b0 i0 b1 i1 b2 i2 b3 i3 b4 i4 b5 i5 b6 i6 b7 i7 =
    let P : ℕ → Type 0 = λ k. (other : A) → get_or row (at + k) other ≡ coded (get_or (p0 ∷ p1 ∷ p2 ∷ p3 ∷ p4 ∷ p5 ∷ p6 ∷ p7 ∷ []) k 0) in
    record {
      eight = refl;
      each = λ k other h.
          eight_places P (lent_of coded row at 0 p0 x0 (omega arith) l b0 i0) (lent_of coded row at 1 p1 x1 (omega arith) l b1 i1) (lent_of coded row at 2 p2 x2 (omega arith) l b2 i2) (lent_of coded row at 3 p3 x3 (omega arith) l b3 i3)
          (lent_of coded row at 4 p4 x4 (omega arith) l b4 i4) (lent_of coded row at 5 p5 x5 (omega arith) l b5 i5) (lent_of coded row at 6 p6 x6 (omega arith) l b6 i6) (lent_of coded row at 7 p7 x7 (omega arith) l b7 i7) k h other;
    }

one_more : (x y : ℕ) (xs ys : List ℕ) (t : Bool) → eqb x y ≡ t → mask_l (zip2 (λ x y. not (eqb x y)) (x ∷ xs) (y ∷ ys)) ≡ 0 → (mask_l (zip2 (λ x y. not (eqb x y)) xs ys) ≡ 0 → xs ≡ ys) → x ∷ xs ≡ y ∷ ys
one_more x y xs ys true same e rest =
    let m : ℕ = mask_l (zip2 (λ x y. not (eqb x y)) xs ys) in
    let none : cond (not true) 1 0 + 2 * m ≡ 0 = ap (λ t. cond (not t) 1 0 + 2 * m) (sym same) ∙ e in
    let tails : xs ≡ ys = rest (omega (arith, none)) in
    λ i. eqb-true x y same i ∷ tails i
one_more x y xs ys false other e rest =
    let m : ℕ = mask_l (zip2 (λ x y. not (eqb x y)) xs ys) in
    let none : cond (not false) 1 0 + 2 * m ≡ 0 = ap (λ t. cond (not t) 1 0 + 2 * m) (sym other) ∙ e in
    absurd (let z : ⊥ = omega (arith, none) in z)

-- lanes none of which differ are the same
pub none_differ : (xs ys : List ℕ) → length xs ≡ length ys → mask_l (zip2 (λ x y. not (eqb x y)) xs ys) ≡ 0 → xs ≡ ys
none_differ [] [] l e = refl
none_differ [] (y ∷ ys) l e = absurd (let z : ⊥ = omega (arith, l) in z)
none_differ (x ∷ xs) [] l e = absurd (let z : ⊥ = omega (arith, l) in z)
none_differ (x ∷ xs) (y ∷ ys) l e = one_more x y xs ys (eqb x y) refl e (none_differ xs ys (omega (arith, l)))

pub eight_same : {A : Type 0} (coded : ℕ → A) (a b : List A) (at : ℕ) (xs ys : List ℕ) → HasEight coded a at xs → HasEight coded b at ys
    → nat_eq (mask_l (map (top 31) (zip2 (λ x y. cond (not (eqb x y)) 4294967295 0) xs ys)) % 18446744073709551616) 0 ≡ true → (i : ℕ) → at ≤ i → i < at + 8 → IsSameAt a b i
eight_same coded a b at xs ys has_a has_b zero_mask i from up other =
    let differing : List Bool = zip2 (λ x y. not (eqb x y)) xs ys in
    let few : length differing ≤ 64 = omega (arith, length-zip2 (λ x y. not (eqb x y)) xs ys (has_a.eight ∙ sym has_b.eight), has_a.eight) in
    let mask : mask_l differing ≡ 0 =
    sym (mask_l-mod differing 64 few) ∙ ap (λ ms. mask_l ms % 18446744073709551616) (sym (tops_compared w32 (λ x y. not (eqb x y)) xs ys))
    ∙ eqb-true (mask_l (map (top 31) (zip2 (λ x y. cond (not (eqb x y)) 4294967295 0) xs ys)) % 18446744073709551616) 0 zero_mask in
    let k : ℕ = i - at in
    let there : at + (i - at) ≡ i = omega (arith, from) in
    let near : i - at < 8 = omega (arith, from, up) in
    ap (λ n. get_or a n other) (sym there) ∙ has_a.each (i - at) other near ∙ ap (λ zs. coded (get_or zs (i - at) 0)) (none_differ xs ys (has_a.eight ∙ sym has_b.eight) mask)
    ∙ sym (has_b.each (i - at) other near) ∙ ap (λ n. get_or b n other) there

-- rows that are the same before a place, and in eight places from there on; or in one
pub more_before : {A : Type 0} (a b : List A) (at n : ℕ) → ((i : ℕ) → i < at → IsSameAt a b i) → ((i : ℕ) → at ≤ i → i < at + n → IsSameAt a b i) → (i : ℕ) → i < at + n → IsSameAt a b i
more_before a b at n before more i h other = elim (less_or_not i at) [
  | inl l ↦ before i l other
  | inr l ↦ more i l h other
]

-- rows that are the same from a place on, and in the n places before it
pub more_after : {A : Type 0} (a b : List A) (at n : ℕ) → ((i : ℕ) → at + n ≤ i → i < length a → IsSameAt a b i) → ((i : ℕ) → at ≤ i → i < at + n → IsSameAt a b i) → (i : ℕ) → at ≤ i → i < length a → IsSameAt a b i
more_after a b at n after more i from h other = elim (less_or_not i (at + n)) [
  | inl l ↦ more i from l other
  | inr l ↦ after i l h other
]

-- elements whose numbers are the same, or differ
pub same_numbers : {A : Type 0} (coded : ℕ → A) (a b : List A) (i m n : ℕ) (x y : A) → i < length a → length a ≡ length b → coded m ≡ x → x ≡ get_or a i x → coded n ≡ y → y ≡ get_or b i y → m ≡ n → IsSameAt a b i
same_numbers coded a b i m n x y h l x_is in_a y_is in_b same other =
    sym (x_is ∙ in_a ∙ get_or_default a i x other h) ∙ ap coded same ∙ y_is ∙ in_b ∙ get_or_default b i y other (omega (arith, l))

pub other_numbers : {A : Type 0} (code : A → ℕ) (a b : List A) (i m n : ℕ) (x y : A) → i < length a → length a ≡ length b → m ≡ code x → x ≡ get_or a i x → n ≡ code y → y ≡ get_or b i y → m ≢ n → DiffersAt a b i
other_numbers code a b i m n x y h l m_is in_a n_is in_b differs other e =
    differs (m_is ∙ ap code (in_a ∙ get_or_default a i x other h ∙ e ∙ sym (in_b ∙ get_or_default b i y other (omega (arith, l)))) ∙ sym n_is)

-- one place is all that there are
pub only_place : {A : Type 0} (a b : List A) (at : ℕ) → IsSameAt a b at → (i : ℕ) → at ≤ i → i < at + 1 → IsSameAt a b i
only_place a b at same i from up other =
    let here : at ≡ i = omega (arith, from, up) in
    ap (λ n. get_or a n other) (sym here) ∙ same other ∙ ap (λ n. get_or b n other) here
