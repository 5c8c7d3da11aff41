-- Facts on numbers that are cut off.
use Rattle.std.proofs.Common.{◌≡◌, ℕ, ◌+◌, ◌*◌, ◌≤◌, ◌<◌, min, Bool, true, false, length, get_or, drop, List, [], ◌∷◌, Option, Some, None, option_map, cond, ltb, refl, ap, arith, inl, inr}
use Rattle.std.proofs.Math.Nat.{mul-le-mul_left}
use Rattle.std.proofs.lemmas.Bool.{cases_lt}
use Rattle.std.proofs.lemmas.Bool.Decides.{nat_tests}
use Rattle.std.proofs.lemmas.List.{drop_more}
use Rattle.ti_source.specs.Reading.Number.{digit, digits_after}

abbrev pub cut : ℕ → ℕ → ℕ
cut most n = min n most

cut-more : (most n m base d : ℕ) → 1 ≤ base → cut most n ≡ cut most m → cut most (n * base + d) ≡ cut most (m * base + d)
cut-more most n m base d low e =
    let product = mul-le-mul_left n low in
    let other = mul-le-mul_left m low in
    elim (cases_lt n most) [
      | inl h ↦ let same : m ≡ n = omega arith in rw same refl
      | inr h ↦ omega arith
    ]

each : (most : ℕ) (t : Bool) (x y : Option ℕ) → option_map (cut most) x ≡ option_map (cut most) y → option_map (cut most) (cond t x None) ≡ option_map (cut most) (cond t y None)
each most true x y e = e
each most false x y e = refl

-- digits after two numbers that are cut off alike
pub digits_after-cut : (most base n m : ℕ) (bs : List ℕ) → 1 ≤ base → cut most n ≡ cut most m → option_map (cut most) (digits_after base n bs) ≡ option_map (cut most) (digits_after base m bs)
digits_after-cut most base n m [] low e = ap Some e
digits_after-cut most base n m (b ∷ bs) low e =
    each most (ltb (digit b) base) (digits_after base (n * base + digit b) bs) (digits_after base (m * base + digit b) bs)
    (digits_after-cut most base (n * base + digit b) (m * base + digit b) bs low (cut-more most n m base (digit b) low e))

-- the next digit, where the value is cut off
pub digits_after-next : (most base value next kept i b : ℕ) (bs : List ℕ) → 1 ≤ base → i < length bs → b ≡ get_or bs i 0 → next ≡ digit b → next < base → kept ≡ min (value * base + next) most
    → option_map (cut most) (digits_after base value (drop i bs)) ≡ option_map (cut most) (digits_after base kept (drop (i + 1) bs))
digits_after-next most base value next kept i b bs low lt at is small cuts =
    let d : drop i bs ≡ b ∷ drop (i + 1) bs = rw at (drop_more bs i 0 lt) in
    let t : ltb (digit b) base ≡ true = rw (← is) (grind (arith, nat_tests)) in
    let c : cut most (value * base + digit b) ≡ cut most kept = rw (cuts, is) (omega arith) in
    rw (d, t) (digits_after-cut most base (value * base + digit b) kept (drop (i + 1) bs) low c)
