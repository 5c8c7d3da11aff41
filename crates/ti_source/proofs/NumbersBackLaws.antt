-- A printed number stands for the number that it was printed from.
use Rattle.std.proofs.Common.{◌≡◌, ◌≢◌, ◌∙◌, ℕ, ◌+◌, ◌*◌, ◌/◌, ◌%◌, ◌^◌, ◌<◌, Bool, true, false, cond, eqb, ltb, leb, get_or, List, [], ◌∷◌, ◌++◌, Option, Some, None, refl, ap, sym, subst, arith, inl, inr}
use Rattle.std.specs.Fmt.{decimal}
use Rattle.std.proofs.lemmas.Fmt.{decimal_by_steps, decimal_digit, first_decimal}
use Rattle.std.proofs.lemmas.Bool.Decides.{nat_tests}
use Rattle.std.proofs.lemmas.Bool.{cases_lt}
use Rattle.ti_source.specs.Reading.Number.{digit, digits_after, number}

digit-own : (n : ℕ) → n < 10 → digit (48 + n) ≡ n
digit-own n h =
    let low : leb 48 (48 + n) ≡ true = grind (arith, nat_tests) in
    let high : leb (48 + n) 57 ≡ true = grind (arith, nat_tests) in
    rw (low, high) (omega arith)

-- one digit after a value
digits_after-one : (v n : ℕ) → n < 10 → digits_after 10 v ((48 + n) ∷ []) ≡ Some (v * 10 + n)
digits_after-one v n h =
    let t : ltb (digit (48 + n)) 10 ≡ true = rw (digit-own n h) (grind (arith, nat_tests)) in
    rw (t, digit-own n h) refl

parts : (t : Bool) (x y z w : Option ℕ) → cond t x None ≡ z → (x ≡ z → y ≡ w) → z ≢ None → cond t y None ≡ w
parts true x y z w e next some = next e
parts false x y z w e next some = absurd (some (sym e))

-- digits in two parts
digits_after-append : (v w : ℕ) (xs ys : List ℕ) → digits_after 10 v xs ≡ Some w → digits_after 10 v (xs ++ ys) ≡ digits_after 10 w ys
digits_after-append v w [] ys e = let same : v ≡ w = cc in rw same refl
digits_after-append v w (b ∷ xs) ys e =
    parts (ltb (digit b) 10) (digits_after 10 (v * 10 + digit b) xs) (digits_after 10 (v * 10 + digit b) (xs ++ ys)) (Some w) (digits_after 10 w ys) e (digits_after-append (v * 10 + digit b) w xs ys) (λ none. cc)

digits-own : (n : ℕ) → n < 2 ^ 64 → digits_after 10 0 (decimal n) ≡ Some n
digits-own n small =
    decimal_by_steps (λ m ds. digits_after 10 0 ds ≡ Some m) (λ m h. digits_after-one 0 m h ∙ ap Some (omega arith))
    (λ m ds h front. digits_after-append 0 (m / 10) ds ((48 + m % 10) ∷ []) front ∙ digits_after-one (m / 10) (m % 10) (omega arith) ∙ ap Some (omega arith)) n small

-- digits that begin with none 0
number-plain : (ds : List ℕ) → 48 < get_or ds 0 0 → number ds ≡ digits_after 10 0 ds
number-plain [] h = absurd (omega arith)
number-plain (b ∷ bs) h = let t : eqb b 48 ≡ false = grind (arith, nat_tests) in rw t refl

pub number-decimal : (n : ℕ) → n < 2 ^ 64 → number (decimal n) ≡ Some n
number-decimal n small =
    elim (cases_lt 0 n) [
      | inl some ↦ number-plain (decimal n) (first_decimal n some small) ∙ digits-own n small
      | inr none ↦
          let zero-is : n ≡ 0 = omega arith in
          let Q : ℕ → Type 0 = λ m. number (decimal m) ≡ Some m in
          subst Q (sym zero-is) (rw (decimal_digit 0 (omega arith)) refl)
    ]
