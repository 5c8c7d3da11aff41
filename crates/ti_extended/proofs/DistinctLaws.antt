-- Sorted names are distinct where none is the one before it.
use Rattle.std.proofs.Common.{◌≡◌, ◌∙◌, ℕ, Ordering, Bool, true, false, cond, ◌||◌, ◌&&◌, not, ap, sym, subst, refl, List, [], ◌∷◌, map}
use Rattle.std.specs.Prelude.{IsPermutation, IsSorted}
use Rattle.std.specs.List.{AllByRecursion, IsDistinct, dedup, dedup_from, list_any}
use Rattle.std.specs.List.Sorted.{IsStrictlySortedBy}
use Rattle.std.specs.Ordering.{eq_by_cmp, nat_cmp}
use Rattle.std.specs.Cmp.Lexicographic.{slice_cmp}
use Rattle.std.specs.Str.{bytes_eq}
use Rattle.std.proofs.lemmas.Bool.{and_parts, false≢true}
use Rattle.std.proofs.lemmas.Cmp.{nat_list_cmp_total, on_total}
use Rattle.std.proofs.lemmas.List.Kept.{IsStrictlySortedBy-dedup}
use Rattle.std.proofs.lemmas.List.Sorted.{IsPermutation-sym}
use Rattle.std.proofs.lemmas.Map.Keys.{IsDistinct-from_sorted, IsDistinct-IsPermutation}
use Rattle.std.proofs.lemmas.Map.Text.{is_eq-slice_cmp}
use Rattle.std.proofs.lemmas.Slice.Eq.{bytes_eq-Decides}
use Rattle.ti_extended.specs.Distinct.{differ_in_turn}
use Rattle.ti_extended.specs.Whole.{are_distinct}

same_by : (a b : List ℕ) (p q : Bool) → bytes_eq a b ≡ p → bytes_eq b a ≡ q → p ≡ q
same_by a b true true e f = refl
same_by a b false false e f = refl
same_by a b true false e f = sym ((bytes_eq-Decides b a).1 (sym ((bytes_eq-Decides a b).0 e))) ∙ f
same_by a b false true e f = sym e ∙ (bytes_eq-Decides a b).1 (sym ((bytes_eq-Decides b a).0 f))

flipped : (a b : List ℕ) → bytes_eq a b ≡ bytes_eq b a
flipped a b = same_by a b (bytes_eq a b) (bytes_eq b a) refl refl

not_false : (b : Bool) → not b ≡ true → b ≡ false
not_false true h = sym h
not_false false h = refl

neither : (a b : Bool) → (a || b) ≡ false → (a ≡ false) × (b ≡ false)
neither true b h = absurd (false≢true (sym h))
neither false b h = (refl, h)

-- ---- a name that is the one before it

repeated : (second first more turn all : Bool) → second ≡ first → (not second && turn) ≡ false → (turn ≡ false → all ≡ false) → (not (first || more) && all) ≡ false
repeated true first more turn all e h k = ap (λ b. not (b || more) && all) (sym e)
repeated false first more turn all e h k = ap (λ b. not (first || more) && b) (k h) ∙ nothing (not (first || more))
  where
    nothing : (b : Bool) → (b && false) ≡ false
    nothing true = refl
    nothing false = refl

pub not_distinct : (names : List (List ℕ)) → differ_in_turn names ≡ false → are_distinct names ≡ false
not_distinct [] h = absurd (false≢true (sym h))
not_distinct (a ∷ []) h = absurd (false≢true (sym h))
not_distinct (a ∷ b ∷ names) h =
    repeated (bytes_eq b a) (bytes_eq a b) (list_any (bytes_eq a) names) (differ_in_turn (b ∷ names)) (are_distinct (b ∷ names)) (flipped b a) h (not_distinct (b ∷ names))

-- ---- none is

module _ {X : Type 0} (f : X → List ℕ) where
  abbrev by_name : X → X → Ordering
  by_name x y = slice_cmp nat_cmp (f x) (f y)

  abbrev same_name : X → X → Bool
  same_name x y = bytes_eq (f x) (f y)

  tied : (x y : X) → same_name x y ≡ eq_by_cmp by_name x y
  tied x y = sym (is_eq-slice_cmp (f x) (f y))

  kept_by : (b : Bool) (x : X) (xs ys zs : List X) → b ≡ false → ys ≡ zs → cond b xs (x ∷ ys) ≡ x ∷ zs
  kept_by b x xs ys zs e k = ap (λ c. cond c xs (x ∷ ys)) e ∙ ap (λ l. x ∷ l) k

  kept_from : (x : X) (xs : List X) → differ_in_turn (map f (x ∷ xs)) ≡ true → dedup_from same_name x xs ≡ x ∷ xs
  kept_from x [] h = refl
  kept_from x (y ∷ ys) h =
      let both = and_parts (not (same_name y x)) (differ_in_turn (map f (y ∷ ys))) h in
      kept_by (same_name y x) x (dedup_from same_name x ys) (dedup_from same_name y ys) (y ∷ ys) (not_false (same_name y x) both.0) (kept_from y ys both.1)

  kept : (xs : List X) → differ_in_turn (map f xs) ≡ true → dedup same_name xs ≡ xs
  kept [] h = refl
  kept (x ∷ xs) h = kept_from x xs h

  ascend : (xs : List X) → IsSorted by_name xs → differ_in_turn (map f xs) ≡ true → IsStrictlySortedBy by_name xs
  ascend xs s h = subst (IsStrictlySortedBy by_name) (kept xs h) (IsStrictlySortedBy-dedup (on_total f nat_list_cmp_total) tied xs s)

  -- ---- distinct names in any order

  absent : (x : X) (xs : List X) → AllByRecursion (λ y. eq_by_cmp by_name x y ≡ false) xs → list_any (bytes_eq (f x)) (map f xs) ≡ false
  absent x [] all = refl
  absent x (y ∷ ys) all = ap (λ b. b || list_any (bytes_eq (f x)) (map f ys)) (tied x y ∙ all.0) ∙ absent x ys all.1

  distinct : (xs : List X) → IsDistinct (eq_by_cmp by_name) xs → are_distinct (map f xs) ≡ true
  unfolding IsDistinct
  distinct [] d = refl
  distinct (x ∷ xs) d = ap (λ b. not b && are_distinct (map f xs)) (absent x xs d.0) ∙ distinct xs d.1

  none_of : (x : X) (xs : List X) → list_any (bytes_eq (f x)) (map f xs) ≡ false → AllByRecursion (λ y. eq_by_cmp by_name x y ≡ false) xs
  none_of x [] h = tt
  none_of x (y ∷ ys) h =
      let both = neither (same_name x y) (list_any (bytes_eq (f x)) (map f ys)) h in
      (sym (tied x y) ∙ both.0, none_of x ys both.1)

  apart : (xs : List X) → are_distinct (map f xs) ≡ true → IsDistinct (eq_by_cmp by_name) xs
  unfolding IsDistinct
  apart [] h = tt
  apart (x ∷ xs) h =
      let both = and_parts (not (list_any (bytes_eq (f x)) (map f xs))) (are_distinct (map f xs)) h in
      (none_of x xs (not_false (list_any (bytes_eq (f x)) (map f xs)) both.0), apart xs both.1)

  flips : (x y : X) → eq_by_cmp by_name x y ≡ eq_by_cmp by_name y x
  flips x y = sym (tied x y) ∙ flipped (f x) (f y) ∙ tied y x

  pub sorted_tells : (old new : List X) (b : Bool) → IsPermutation old new → IsSorted by_name new → b ≡ differ_in_turn (map f new) → b ≡ are_distinct (map f old)
  sorted_tells old new true p s e =
      sym (distinct old (IsDistinct-IsPermutation (eq_by_cmp by_name) flips new old (IsPermutation-sym old new p) (IsDistinct-from_sorted by_name new (ascend new s (sym e)))))
  sorted_tells old new false p s e = by (are_distinct (map f old)) refl
    where
      by : (a : Bool) → are_distinct (map f old) ≡ a → false ≡ a
      by false g = refl
      by true g =
          let still : are_distinct (map f new) ≡ true = distinct new (IsDistinct-IsPermutation (eq_by_cmp by_name) flips old new p (apart old g)) in
          sym (not_distinct (map f new) (sym e)) ∙ still
