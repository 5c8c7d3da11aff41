-- Eight lanes, each of them 0 where a test passes.
use Rattle.std.proofs.Common.{◌≡◌, ◌≢◌, ◌⊎◌, inl, inr, ℕ, zero, suc, Bool, true, false, ◌+◌, ◌-◌, ◌*◌, ◌%◌, ◌/◌, ◌^◌, ◌<◌, ◌≤◌, sym, ◌∙◌, ap, subst, refl, arith, bit_and, bit_or, cond, Fits, get_or, length, List, [], ◌∷◌, map, nat_eq, w32, w64}
use Rattle.std.proofs.lemmas.Bool.{eqb-true}
use Rattle.std.proofs.lemmas.Bool.Decides.{nat_tests}
use Rattle.std.proofs.lemmas.List.{get_or-map, length-map}
use Rattle.std.proofs.lemmas.Nat.{and_assoc, and_le_l, le_or_l, le_or_r}
use Rattle.std.proofs.lemmas.Nat.Bits.{and_high, bit_at-trailing_ones, bit_at_above}
use Rattle.std.proofs.Math.Dec.{eqb}
use Rattle.std.proofs.lemmas.Simd.{bit_mask_l, Each1-get_or, get_or-sel_l, get_or-zip2, length-sel_l, length-zip2, mask_l-lt, mask_l-mod}
use Rattle.std.specs.Int.{bit_at, trailing_ones}
use Rattle.std.specs.Simd.Lanes.{Each1, fold_l, mask_l, sel_l, top, zip2}
use Rattle.scr_cells.proofs.DifferenceLaws.{eight_places}

-- ---- words for what operations on vectors leave

abbrev pub repeated : ℕ → List ℕ
repeated n = n ∷ n ∷ n ∷ n ∷ n ∷ n ∷ n ∷ n ∷ []

abbrev pub equal : List ℕ → List ℕ → List ℕ
equal xs ys = zip2 (λ x y. cond (eqb x y) 4294967295 0) xs ys

abbrev pub less : ℕ → ℕ → ℕ
less a b = (a + (4294967296 - b)) % 4294967296

repeated_is : (n k : ℕ) → k < 8 → get_or (repeated n) k 0 ≡ n
repeated_is n k near = eight_places (λ k. get_or (repeated n) k 0 ≡ n) refl refl refl refl refl refl refl refl k near

pub eight_of : (f : ℕ → ℕ → ℕ) (xs ys : List ℕ) → length xs ≡ 8 → length ys ≡ 8 → length (zip2 f xs ys) ≡ 8
eight_of f xs ys one other = length-zip2 f xs ys (one ∙ sym other) ∙ one

lane_of : (f : ℕ → ℕ → ℕ) (xs ys : List ℕ) (k : ℕ) → length xs ≡ 8 → length ys ≡ 8 → k < 8 → get_or (zip2 f xs ys) k 0 ≡ f (get_or xs k 0) (get_or ys k 0)
lane_of f xs ys k one other near = get_or-zip2 f xs ys k 0 0 0 (omega (arith, one, near)) (omega (arith, other, near))

-- an operation on each lane and one number
lane_with : (f : ℕ → ℕ → ℕ) (xs : List ℕ) (n k : ℕ) → length xs ≡ 8 → k < 8 → get_or (zip2 f xs (repeated n)) k 0 ≡ f (get_or xs k 0) n
lane_with f xs n k eight near = lane_of f xs (repeated n) k eight refl near ∙ ap (f (get_or xs k 0)) (repeated_is n k near)

pub fits : (xs : List ℕ) (k : ℕ) → length xs ≡ 8 → k < 8 → Each1 (Fits w32) xs → get_or xs k 0 < 4294967296
fits xs k eight near each = (Each1-get_or (Fits w32) xs k 0 (omega (arith, eight, near)) each).fits

-- ---- how many lanes are 0, from the left

one_zero : (a x : ℕ) (xs : List ℕ) → bit_or a x ≡ 0 → ((k : ℕ) → get_or xs k 0 ≡ 0) → (k : ℕ) → get_or (x ∷ xs) k 0 ≡ 0
one_zero a x xs none rest zero = omega (arith, none, le_or_r a x)
one_zero a x xs none rest (suc k) = rest k

-- lanes whose bits together are none
zero_parts : (a : ℕ) (xs : List ℕ) → fold_l bit_or a xs ≡ 0 → (a ≡ 0) × ((k : ℕ) → get_or xs k 0 ≡ 0)
zero_parts a [] none = (none, λ k. refl)
zero_parts a (x ∷ xs) none = let parts = zero_parts (bit_or a x) xs none in let first : bit_or a x ≡ 0 = parts.0 in (omega (arith, first, le_or_l a x), one_zero a x xs first parts.1)

pub all_zero : (xs : List ℕ) → fold_l bit_or 0 xs ≡ 0 → (k : ℕ) → get_or xs k 0 ≡ 0
all_zero xs none = (zero_parts 0 xs none).1

abbrev digit : Bool → ℕ
digit b = cond b 1 0

set_of : (b : Bool) → digit b ≡ 1 → b ≡ true
set_of true e = refl
set_of false e = absurd (let z : ⊥ = omega (arith, e) in z)

top_set : (b : Bool) → top 31 (cond b 4294967295 0) ≡ true → b ≡ true
top_set true e = refl
top_set false e = e

-- the bits of lanes, set where they are 0
abbrev pub zero_bits : List ℕ → ℕ
zero_bits xs = mask_l (map (top 31) (equal xs (repeated 0))) % 18446744073709551616

eight_bits : (xs : List ℕ) → length xs ≡ 8 → length (map (top 31) (equal xs (repeated 0))) ≡ 8
eight_bits xs eight = length-map (equal xs (repeated 0)) (top 31) ∙ eight_of (λ x y. cond (eqb x y) 4294967295 0) xs (repeated 0) eight refl

is_mask : (xs : List ℕ) → length xs ≡ 8 → zero_bits xs ≡ mask_l (map (top 31) (equal xs (repeated 0)))
is_mask xs eight = mask_l-mod (map (top 31) (equal xs (repeated 0))) 64 (omega (arith, eight_bits xs eight))

few_bits : (xs : List ℕ) → length xs ≡ 8 → zero_bits xs < 256
few_bits xs eight =
    let below : mask_l (map (top 31) (equal xs (repeated 0))) < 256 = subst (λ n. mask_l (map (top 31) (equal xs (repeated 0))) < 2 ^ n) (eight_bits xs eight) (mask_l-lt (map (top 31) (equal xs (repeated 0)))) in
    omega (arith, below, is_mask xs eight)

zero_lane : (xs : List ℕ) (k : ℕ) → length xs ≡ 8 → k < 8 → bit_at (zero_bits xs) k ≡ 1 → get_or xs k 0 ≡ 0
zero_lane xs k eight near set =
    let bit : bit_at (mask_l (map (top 31) (equal xs (repeated 0)))) k ≡ 1 = ap (λ n. bit_at n k) (sym (is_mask xs eight)) ∙ set in
    let is : get_or (map (top 31) (equal xs (repeated 0))) k false ≡ true = set_of _ (sym (bit_mask_l (map (top 31) (equal xs (repeated 0))) k) ∙ bit) in
    let lanes : length (equal xs (repeated 0)) ≡ 8 = eight_of (λ x y. cond (eqb x y) 4294967295 0) xs (repeated 0) eight refl in
    let at_top : top 31 (get_or (equal xs (repeated 0)) k 0) ≡ true = sym (get_or-map (top 31) (equal xs (repeated 0)) k 0 false (omega (arith, lanes, near))) ∙ is in
    eqb-true (get_or xs k 0) 0 (top_set _ (ap (top 31) (sym (lane_with (λ x y. cond (eqb x y) 4294967295 0) xs 0 k eight near)) ∙ at_top))

less_or_not : (a b : ℕ) → (a < b) ⊎ (b ≤ a)
less_or_not a b = grind arith

set_from_left : (bits : ℕ) → bits < 256 → (k : ℕ) → k < trailing_ones w64 bits → bit_at bits k ≡ 1
set_from_left bits few = (bit_at-trailing_ones w64 bits (omega (arith, few))).2

pub few_zeros : (xs : List ℕ) (n : ℕ) → length xs ≡ 8 → n ≡ trailing_ones w64 (zero_bits xs) → n ≤ 8
few_zeros xs n eight is = by (less_or_not 8 n)
  where
    few : zero_bits xs < 256
    few = few_bits xs eight

    by : (8 < n) ⊎ (n ≤ 8) → n ≤ 8
    by (inr up) = up
    by (inl over) = absurd (let z : ⊥ = omega (arith, set_from_left (zero_bits xs) few 8 (omega (arith, over, is)), bit_at_above (zero_bits xs) 8 8 few (omega arith)) in z)

pub zeros : (xs : List ℕ) (n : ℕ) → length xs ≡ 8 → n ≡ trailing_ones w64 (zero_bits xs) → (k : ℕ) → k < n → get_or xs k 0 ≡ 0
zeros xs n eight is k near = zero_lane xs k eight (omega (arith, near, few_zeros xs n eight is)) (set_from_left (zero_bits xs) (few_bits xs eight) k (omega (arith, near, is)))

-- ---- lanes that are 0

less_is_zero : (a b : ℕ) → a < 4294967296 → b < 4294967296 → less a b ≡ 0 → a ≡ b
less_is_zero a b first second none = omega (arith, first, second, none)

pub same_lanes : (xs ys : List ℕ) (hidden k : ℕ) → length xs ≡ 8 → length ys ≡ 8 → Each1 (Fits w32) xs → Each1 (Fits w32) ys → k < 8 → get_or (zip2 bit_or (zip2 less xs ys) (zip2 bit_and ys (repeated hidden))) k 0 ≡ 0
    → (get_or xs k 0 ≡ get_or ys k 0) × (get_or ys k 0 < 4294967296) × (bit_and (get_or ys k 0) hidden ≡ 0)
same_lanes xs ys hidden k one other x_fits y_fits near none =
    let x : ℕ = get_or xs k 0 in
    let y : ℕ = get_or ys k 0 in
    let lane : get_or (zip2 bit_or (zip2 less xs ys) (zip2 bit_and ys (repeated hidden))) k 0 ≡ bit_or (get_or (zip2 less xs ys) k 0) (get_or (zip2 bit_and ys (repeated hidden)) k 0) =
    lane_of bit_or (zip2 less xs ys) (zip2 bit_and ys (repeated hidden)) k (eight_of less xs ys one other) (eight_of bit_and ys (repeated hidden) other refl) near in
    let first : less x y ≡ 0 = sym (lane_of less xs ys k one other near) ∙ omega (arith, none, lane, le_or_l (get_or (zip2 less xs ys) k 0) (get_or (zip2 bit_and ys (repeated hidden)) k 0)) in
    let second : bit_and y hidden ≡ 0 = sym (lane_with bit_and ys hidden k other near) ∙ omega (arith, none, lane, le_or_r (get_or (zip2 less xs ys) k 0) (get_or (zip2 bit_and ys (repeated hidden)) k 0)) in
    (less_is_zero x y (fits xs k one near x_fits) (fits ys k other near y_fits) first, fits ys k other near y_fits, second)

-- less a base, of each of which these bits are kept
eight_kept : (bits base : ℕ) (xs : List ℕ) → length xs ≡ 8 → length (zip2 less (zip2 bit_and xs (repeated bits)) (repeated base)) ≡ 8
eight_kept bits base xs eight = eight_of less (zip2 bit_and xs (repeated bits)) (repeated base) (eight_of bit_and xs (repeated bits) eight refl) refl

kept_lane : (bits base : ℕ) (xs : List ℕ) (k : ℕ) → length xs ≡ 8 → k < 8 → get_or (zip2 less (zip2 bit_and xs (repeated bits)) (repeated base)) k 0 ≡ less (bit_and (get_or xs k 0) bits) base
kept_lane bits base xs k eight near = lane_with less (zip2 bit_and xs (repeated bits)) base k (eight_of bit_and xs (repeated bits) eight refl) near ∙ ap (λ n. less n base) (lane_with bit_and xs bits k eight near)

-- ---- numbers some of whose bits are others

above_by_character : (n base : ℕ) → n < 4294967296 → base < 4294967296 → less (bit_and n 4294901760) base ≡ 0 → (base ≤ n) × (n < base + 65536)
above_by_character n base few base_few none = let high : bit_and n 4294901760 ≡ n / 65536 % 65536 * 65536 = and_high n 16 16 in (omega (arith, few, base_few, none, high), omega (arith, few, base_few, none, high))

pub kept_above_character : (n base : ℕ) → n < 4294967296 → bit_and n 4294901760 ≡ base → (base ≤ n) × (n < base + 65536)
kept_above_character n base few is = let high : bit_and n 4294901760 ≡ n / 65536 % 65536 * 65536 = and_high n 16 16 in (omega (arith, few, is, high), omega (arith, few, is, high))

pub kept_above_seven_bits : (n base : ℕ) → n < 4294967296 → bit_and n 4294967168 ≡ base → (base ≤ n) × (n < base + 128)
kept_above_seven_bits n base few is = let high : bit_and n 4294967168 ≡ n / 128 % 33554432 * 128 = and_high n 25 7 in (omega (arith, few, is, high), omega (arith, few, is, high))

-- bits that are among others, of which a number has none
pub none_of_part : (n bits part : ℕ) → bit_and bits part ≡ part → bit_and n bits ≡ 0 → bit_and n part ≡ 0
none_of_part n bits part among none =
    let left : bit_and 0 part ≡ 0 = omega (arith, and_le_l 0 part) in
    ap (bit_and n) (sym among) ∙ sym (and_assoc part n bits) ∙ ap (λ k. bit_and k part) none ∙ left

pub below_ascii : (n : ℕ) → bit_and n 65408 ≡ 0 → n % 65536 < 128
below_ascii n none = let high : bit_and n 65408 ≡ n / 128 % 512 * 128 = and_high n 9 7 in omega (arith, none, high)

pub below_pairs : (n : ℕ) → n < 4294967296 → bit_and n 4286578688 ≡ 0 → n < 8388608
below_pairs n few none = let high : bit_and n 4286578688 ≡ n / 8388608 % 512 * 8388608 = and_high n 9 23 in omega (arith, few, none, high)

pub below_attributes : (n : ℕ) → n < 4294967296 → bit_and n 4294901760 ≡ 0 → n < 65536
below_attributes n few none = let high : bit_and n 4294901760 ≡ n / 65536 % 65536 * 65536 = and_high n 16 16 in omega (arith, few, none, high)

pub alike_lanes : (xs : List ℕ) (base k : ℕ) → length xs ≡ 8 → Each1 (Fits w32) xs → base < 4294967296 → k < 8 → get_or (zip2 less (zip2 bit_and xs (repeated 4294901760)) (repeated base)) k 0 ≡ 0
    → (base ≤ get_or xs k 0) × (get_or xs k 0 < base + 65536)
alike_lanes xs base k eight each few near none = above_by_character (get_or xs k 0) base (fits xs k eight near each) few (sym (kept_lane 4294901760 base xs k eight near) ∙ none)

pub eight_alike : (xs : List ℕ) (base : ℕ) → length xs ≡ 8 → length (zip2 less (zip2 bit_and xs (repeated 4294901760)) (repeated base)) ≡ 8
eight_alike xs base eight = eight_kept 4294901760 base xs eight

abbrev pub unlike : List ℕ → List ℕ → ℕ → ℕ → List ℕ
unlike xs ys bits base = sel_l (map (top 31) (equal xs ys)) (repeated 4294967295) (zip2 less (zip2 bit_and ys (repeated bits)) (repeated base))

eight_tests : (xs ys : List ℕ) → length xs ≡ 8 → length ys ≡ 8 → length (map (top 31) (equal xs ys)) ≡ 8
eight_tests xs ys one other = length-map (equal xs ys) (top 31) ∙ eight_of (λ x y. cond (eqb x y) 4294967295 0) xs ys one other

pub eight_unlike : (xs ys : List ℕ) (bits base : ℕ) → length xs ≡ 8 → length ys ≡ 8 → length (unlike xs ys bits base) ≡ 8
eight_unlike xs ys bits base one other =
    let tests = eight_tests xs ys one other in
    length-sel_l (map (top 31) (equal xs ys)) (repeated 4294967295) (zip2 less (zip2 bit_and ys (repeated bits)) (repeated base)) tests (tests ∙ sym (eight_kept bits base ys other)) ∙ tests

unlike_by : (a b n : ℕ) (t : Bool) → t ≡ top 31 (cond (eqb a b) 4294967295 0) → cond t 4294967295 n ≡ 0 → (a ≢ b) × (n ≡ 0)
unlike_by a b n true is none = absurd (let z : ⊥ = omega (arith, none) in z)
unlike_by a b n false is none = (differ (eqb a b) refl is, none)
  where
    differ : (t : Bool) → eqb a b ≡ t → false ≡ top 31 (cond t 4294967295 0) → a ≢ b
    differ true same e = absurd (let z : ⊥ = cc in z)
    differ false other e = λ same. let unequal : nat_eq a b ≡ false = other in grind (arith, nat_tests)

pub unlike_lanes : (xs ys : List ℕ) (bits base k : ℕ) → length xs ≡ 8 → length ys ≡ 8 → Each1 (Fits w32) ys → base < 4294967296 → k < 8 → get_or (unlike xs ys bits base) k 0 ≡ 0
    → (get_or xs k 0 ≢ get_or ys k 0) × (get_or ys k 0 < 4294967296) × (bit_and (get_or ys k 0) bits ≡ base)
unlike_lanes xs ys bits base k one other each few near none =
    let x : ℕ = get_or xs k 0 in
    let y : ℕ = get_or ys k 0 in
    let tests = eight_tests xs ys one other in
    let lanes = eight_of (λ x y. cond (eqb x y) 4294967295 0) xs ys one other in
    let kept : List ℕ = zip2 less (zip2 bit_and ys (repeated bits)) (repeated base) in
    let lane : get_or (unlike xs ys bits base) k 0 ≡ cond (get_or (map (top 31) (equal xs ys)) k false) (get_or (repeated 4294967295) k 0) (get_or kept k 0) =
    get_or-sel_l (map (top 31) (equal xs ys)) (repeated 4294967295) kept k 0 (omega (arith, tests, near)) near (omega (arith, eight_kept bits base ys other, near)) in
    let test : get_or (map (top 31) (equal xs ys)) k false ≡ top 31 (cond (eqb x y) 4294967295 0) = get_or-map (top 31) (equal xs ys) k 0 false (omega (arith, lanes, near)) ∙ ap (top 31) (lane_of (λ x y. cond (eqb x y) 4294967295 0) xs ys k one other near) in
    let is = unlike_by x y (get_or kept k 0) (get_or (map (top 31) (equal xs ys)) k false) test (ap (λ n. cond (get_or (map (top 31) (equal xs ys)) k false) n (get_or kept k 0)) (sym (repeated_is 4294967295 k near)) ∙ sym lane ∙ none) in
    let y_fits : y < 4294967296 = fits ys k other near each in
    let few_kept : bit_and y bits < 4294967296 = omega (arith, y_fits, and_le_l y bits) in
    (is.0, y_fits, less_is_zero (bit_and y bits) base few_kept few (sym (kept_lane bits base ys k other near) ∙ is.1))
