-- Where the one of a number stands among things by ascending numbers.
use Rattle.std.proofs.Common.{◌≡◌, ◌≢◌, ◌⊎◌, inl, inr, ℕ, ◌<◌, ◌≤◌, sym, subst, ap, ◌∙◌, refl, arith, List, [], ◌∷◌, zero, suc, length, map, get_or, None, Some, Bool, true, false, cond, ltb, ◌==◌}
use Rattle.std.specs.Prelude.{filter}
use Rattle.std.specs.List.{AllPairs, position, position_or_len}
use Rattle.std.specs.List.Sorted.{IsPartitionedBy, IsPartitionPoint}
use Rattle.std.proofs.lemmas.Bool.Decides.{nat_tests}
use Rattle.std.proofs.lemmas.List.Sorted.{IsPartitionedBy-ltb}
use Rattle.std.proofs.lemmas.List.Sums.{position_or_len_is}
use Rattle.std.proofs.lemmas.List.{get_or_default}

-- numbers ascend
abbrev pub Rises : {X : Type 0} → (X → ℕ) → List X → Type 0
Rises n xs = AllPairs (λ x y. n x < n y) xs

-- one is before a number
abbrev pub is_before : {X : Type 0} → (X → ℕ) → ℕ → X → Bool
is_before n number x = ltb (n x) number

-- where the search for a number ends
abbrev pub IsEnd : {X : Type 0} → (X → ℕ) → ℕ → List X → ℕ → Type 0
IsEnd n number xs i = IsPartitionPoint (λ x. is_before n number x ≡ true) (λ x. is_before n number x ≡ false) xs i

less_or_same : (i k : ℕ) → i ≤ k → (i < k) ⊎ (i ≡ k)
less_or_same i k le = grind arith

less_or_from : (i k : ℕ) → (k < i) ⊎ (i ≤ k)
less_or_from i k = grind arith

rises_to : {X : Type 0} (n : X → ℕ) (xs : List X) → Rises n xs → (i k : ℕ) (d : X) → i ≤ k → k < length xs → n (get_or xs i d) ≤ n (get_or xs k d)
rises_to n xs up i k d le l = elim (less_or_same i k le) [
  | inl less ↦ (let more = up i k d less l in omega (arith, more))
  | inr e ↦ (let same = ap (λ m. n (get_or xs m d)) e in omega (arith, same))
]

pub are_partitioned : {X : Type 0} (n : X → ℕ) (xs : List X) (number : ℕ) → Rises n xs → IsPartitionedBy (is_before n number) xs
are_partitioned n xs number up = IsPartitionedBy-ltb n xs number (λ i k d le l. rises_to n xs up i k d le l)

not_of : (number a : ℕ) → ltb a number ≡ true → (a == number) ≡ false
not_of number a h = grind (arith, nat_tests)

not_before : (number a : ℕ) → ltb a number ≡ false → number ≤ a
not_before number a h = grind (arith, nat_tests)

before : (number a : ℕ) → ltb a number ≡ true → a < number
before number a h = grind (arith, nat_tests)

greater : (number a : ℕ) → number < a → (a == number) ≡ false
greater number a h = grind (arith, nat_tests)

pub is_it : (number a : ℕ) → a ≡ number → (a == number) ≡ true
is_it number a h = grind (arith, nat_tests)

pub is_not : (number a : ℕ) → a ≢ number → (a == number) ≡ false
is_not number a h = grind (arith, nat_tests)

pub equal : (a b : ℕ) → (a == b) ≡ true → a ≡ b
equal a b h = grind (arith, nat_tests)

pub differs : (a b : ℕ) → (a == b) ≡ false → a ≢ b
differs a b h = λ e. (let z : ⊥ = grind (arith, nat_tests) in z)

-- a number is one or another
pub is_or_not : (a b : ℕ) → ((a == b) ≡ true) ⊎ ((a == b) ≡ false)
is_or_not a b = split (a == b)
  where
    split : (t : Bool) → (t ≡ true) ⊎ (t ≡ false)
    split true = inl refl
    split false = inr refl

none : (k m : ℕ) → k ≡ m → cond (ltb k m) (Some k) None ≡ None
none k m e = ap (λ b. cond b (Some k) None) (same k m e)
  where
    same : (a b : ℕ) → a ≡ b → ltb a b ≡ false
    same a b h = grind (arith, nat_tests)

some : (k m i : ℕ) → k ≡ i → i < m → cond (ltb k m) (Some k) None ≡ Some i
some k m i e h = ap (λ v. cond (ltb v m) (Some v) None) e ∙ ap (λ b. cond b (Some i) None) (less i m h)
  where
    less : (a b : ℕ) → a < b → ltb a b ≡ true
    less a b h = grind (arith, nat_tests)

pub found_at : {X : Type 0} (n : X → ℕ) (xs : List X) (number i : ℕ) (d : X) → IsEnd n number xs i → i < length xs → n (get_or xs i d) ≡ number → Some i ≡ position (λ x. n x == number) xs
found_at {X} n xs number i d h l e =
    let p : X → Bool = λ x. n x == number in
    let first : position_or_len p xs ≡ i = position_or_len_is p xs i d (omega arith) (λ k b. not_of number _ (h.0 k d (omega arith) b)) (λ _. is_it number _ e) in
    sym (some (position_or_len p xs) (length xs) i first l)

pub absent_at : {X : Type 0} (n : X → ℕ) (xs : List X) (number i : ℕ) (d : X) → Rises n xs → IsEnd n number xs i → (i < length xs → n (get_or xs i d) ≢ number) → None ≡ position (λ x. n x == number) xs
absent_at {X} n xs number i d up h other =
    let p : X → Bool = λ x. n x == number in
    let first : position_or_len p xs ≡ length xs = position_or_len_is p xs (length xs) d (omega arith) fails (λ l. absurd (omega arith)) in
    sym (none (position_or_len p xs) (length xs) first)
  where
    above : (a : ℕ) → number ≤ a → a ≢ number → number < a
    above a h k = grind arith

    fails : (k : ℕ) → k < length xs → (n (get_or xs k d) == number) ≡ false
    fails k l = elim (less_or_from i k) [
      | inl b ↦ not_of number _ (h.0 k d (omega arith) b)
      | inr from ↦ (let at : i < length xs = omega arith in
          let over : number < n (get_or xs i d) = above _ (not_before number _ (h.1 i d (omega arith) at)) (other at) in
          let up' = rises_to n xs up i k d from l in
          greater number _ (omega (arith, over, up')))
    ]

-- where one of ascending numbers stands, it is found
pub position_of : {X : Type 0} (n : X → ℕ) (xs : List X) (number k : ℕ) (d : X) → Rises n xs → k < length xs → n (get_or xs k d) ≡ number → position (λ x. n x == number) xs ≡ Some k
position_of {X} n xs number k d up l e =
    let p : X → Bool = λ x. n x == number in
    let first : position_or_len p xs ≡ k = position_or_len_is p xs k d (omega arith) (λ j b. (let less = up j k d b l in is_not number (n (get_or xs j d)) (λ same. (let z : ⊥ = omega (arith, less, same, e) in z)))) (λ _. is_it number _ e) in
    some (position_or_len p xs) (length xs) k first l

-- what code reads at an index
pub read_number : {X Y : Type 0} (n : X → ℕ) (m : Y → ℕ) (g : X → Y) → ((x : X) → m (g x) ≡ n x) → (xs : List X) (i : ℕ) (x d : X) (y : Y) → i < length xs → x ≡ get_or xs i x → y ≡ g x → n (get_or xs i d) ≡ m y
read_number n m g same xs i x d y l x_is y_is = ap n (get_or_default xs i d x l ∙ sym x_is) ∙ sym (same x) ∙ ap m (sym y_is)

-- what passes a test stands among those that pass
pub kept_in_filter : {X : Type 0} (p : X → Bool) (xs : List X) (k : ℕ) (d : X) → k < length xs → p (get_or xs k d) ≡ true → (m : ℕ) × (m < length (filter p xs)) × (get_or (filter p xs) m d ≡ get_or xs k d)
kept_in_filter p [] k d l h = absurd (omega (arith, l))
kept_in_filter {X} p (x ∷ xs) zero d l h = let P : List X → Type 0 = λ ys. (m : ℕ) × (m < length ys) × (get_or ys m d ≡ x) in subst P (sym (ap (λ b. cond b (x ∷ filter p xs) (filter p xs)) h)) (zero, omega arith, refl)
kept_in_filter {X} p (x ∷ xs) (suc k) d l h = more (p x) (kept_in_filter p xs k d (omega (arith, l)) h)
  where
    more : (b : Bool) → ((m : ℕ) × (m < length (filter p xs)) × (get_or (filter p xs) m d ≡ get_or xs k d)) → (m : ℕ) × (m < length (cond b (x ∷ filter p xs) (filter p xs))) × (get_or (cond b (x ∷ filter p xs) (filter p xs)) m d ≡ get_or xs k d)
    more true at = (suc at.0, omega (arith, at.1), at.2)
    more false at = at

-- what is made of those that pass a test of what is made of them
pub map-filter : {X Y : Type 0} (f : X → Y) (p : Y → Bool) (xs : List X) → map f (filter (λ x. p (f x)) xs) ≡ filter p (map f xs)
map-filter f p [] = refl
map-filter {X} {Y} f p (x ∷ xs) = one (p (f x)) (map-filter f p xs)
  where
    one : (b : Bool) → map f (filter (λ x. p (f x)) xs) ≡ filter p (map f xs) → map f (cond b (x ∷ filter (λ x. p (f x)) xs) (filter (λ x. p (f x)) xs)) ≡ cond b (f x ∷ filter p (map f xs)) (filter p (map f xs))
    one true rest = ap (λ ys. f x ∷ ys) rest
    one false rest = rest
