-- Digits and flags, as the reader takes them one after another, are those of the definition, both ways.
use Rattle.std.proofs.Common.{◌≡◌, ℕ, ◌+◌, ◌-◌, ◌*◌, ◌^◌, Bool, true, false, cond, List, [], ◌∷◌, ◌++◌, length, refl, sym, ap, ◌∙◌, arith}
use Rattle.std.specs.Prelude.{eqb}
use Rattle.std.proofs.Math.Nat.{pow-suc, mul_comm, mul_left_comm, mul-add}
use Rattle.std.proofs.lemmas.Bool.{cond_both, eqb-true, and_from, and_parts, true≢false}
use Rattle.ti_param.specs.Spelling.{decimal_value, begins_with}
use Rattle.ti_param.specs.Code.Tokens.{digits}
use Rattle.ti_param.specs.Digits.{is_digit, all_digits}

-- ---- digits

shift : (n d p v : ℕ) → (n * 10 + d) * p + v ≡ n * (p * 10) + (d * p + v)
shift n d p v =
    let a = mul_comm (n * 10 + d) p in
    let b = mul-add p (n * 10) d in
    let c = mul_left_comm p n 10 in
    let e = mul_comm p d in
    omega (arith, a, b, c, e)

-- the digits at the head of a text, and their number after n
pub record DigitsAre (n : ℕ) (text : List ℕ) (r : ℕ × List ℕ) : Type 0 where
  pub front : List ℕ
  pub are : all_digits front ≡ true
  pub whole : text ≡ front ++ r.1
  pub value : r.0 ≡ n * 10 ^ length front + decimal_value front
  pub first : begins_with 48 text ≡ begins_with 48 front

one_more : (n b : ℕ) (text : List ℕ) (r : ℕ × List ℕ) → is_digit b ≡ true → DigitsAre (n * 10 + (b - 48)) text r → DigitsAre n (b ∷ text) r
one_more n b text r e d =
    let p = 10 ^ length d.front in
    let power : 10 ^ length (b ∷ d.front) ≡ p * 10 = pow-suc 10 (length d.front) in
    record {
      front = b ∷ d.front;
      are = and_from (is_digit b) (all_digits d.front) e d.are;
      whole = ap (λ l. b ∷ l) d.whole;
      value = d.value ∙ shift n (b - 48) p (decimal_value d.front) ∙ ap (λ q. n * q + ((b - 48) * p + decimal_value d.front)) (sym power);
      first = refl;
    }

no_zero : (b : ℕ) → is_digit b ≡ false → eqb b 48 ≡ false
no_zero b e = go (eqb b 48) refl
  where
    go : (q : Bool) → eqb b 48 ≡ q → eqb b 48 ≡ false
    go false h = h
    go true h = absurd (true≢false (sym (ap is_digit (eqb-true b 48 h)) ∙ e))

at_once : (n : ℕ) → n ≡ n * 10 ^ 0 + 0
at_once n = omega arith

pub digits_are : (n : ℕ) (text : List ℕ) → DigitsAre n text (digits n text)
digits_are n [] = record { front = []; are = refl; whole = refl; value = at_once n; first = refl }
digits_are n (b ∷ text) =
    cond_both (is_digit b) (digits (n * 10 + (b - 48)) text) (n, b ∷ text) (DigitsAre n (b ∷ text)) (λ e. one_more n b text (digits (n * 10 + (b - 48)) text) e (digits_are (n * 10 + (b - 48)) text)) (λ e. record { front = []; are = refl; whole = refl; value = at_once n; first = no_zero b e })

-- what a test says of the first byte of a text, no where there is none
abbrev pub starts : (ℕ → Bool) → List ℕ → Bool
starts test [] = false
starts test (b ∷ text) = test b

digits_none : (n : ℕ) (text : List ℕ) → starts is_digit text ≡ false → digits n text ≡ (n, text)
digits_none n [] e = refl
digits_none n (b ∷ text) e = ap (λ q. cond q (digits (n * 10 + (b - 48)) text) (n, b ∷ text)) e

-- digits, up to a byte that is none
pub digits_through : (n : ℕ) (front text : List ℕ) → all_digits front ≡ true → starts is_digit text ≡ false → digits n (front ++ text) ≡ (n * 10 ^ length front + decimal_value front, text)
digits_through n [] text all stop = digits_none n text stop ∙ ap (λ k. (k, text)) (at_once n)
digits_through n (b ∷ front) text all stop =
    let both = and_parts (is_digit b) (all_digits front) all in
    let p = 10 ^ length front in
    let power : 10 ^ length (b ∷ front) ≡ p * 10 = pow-suc 10 (length front) in
    ap (λ q. cond q (digits (n * 10 + (b - 48)) (front ++ text)) (n, b ∷ (front ++ text))) both.0
    ∙ digits_through (n * 10 + (b - 48)) front text both.1 stop
    ∙ ap (λ k. (k, text)) (shift n (b - 48) p (decimal_value front) ∙ ap (λ q. n * q + ((b - 48) * p + decimal_value front)) (sym power))
