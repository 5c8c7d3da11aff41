-- The parameters that decimal numbers divided by semicolons spell.
use Rattle.std.proofs.Common.{◌≡◌, ℕ, ◌+◌, ◌%◌, ◌^◌, ◌<◌, ◌≤◌, ◌==◌, false, IsTrue, refl, ◌∙◌, ap, arith, List, [], ◌∷◌, ◌++◌, length, Some}
use Rattle.std.specs.List.{AllByRecursion, slice_split}
use Rattle.std.specs.Fmt.{decimal}
use Rattle.std.specs.Str.Parse.{digits_value}
use Rattle.std.proofs.lemmas.Fmt.{decimal_by_steps, decimal_is_IsNumeral, decimal_nonempty}
use Rattle.std.proofs.lemmas.List.Elements.{All-from_recursion}
use Rattle.std.proofs.lemmas.List.Splits.{slice_split_at, slice_split_none}
use Rattle.std.proofs.lemmas.Bool.Decides.{nat_tests}
use Rattle.scr_term.specs.Ecma.Units.{is_parameter_byte}
use Rattle.scr_term.specs.Ecma.Meanings.{parameter, each_parameter, parameters_of}

-- a byte of a decimal number
pub record IsDigit (byte : ℕ) : Type 0 where
  pub from_zero : 48 ≤ byte
  pub to_nine : byte ≤ 57

all_append : (P : ℕ → Type 0) (xs ys : List ℕ) → AllByRecursion P xs → AllByRecursion P ys → AllByRecursion P (xs ++ ys)
all_append P [] ys hx hy = hy
all_append P (x ∷ xs) ys hx hy = (hx.0, all_append P xs ys hx.1 hy)

all_map : (P Q : ℕ → Type 0) → ((x : ℕ) → P x → Q x) → (xs : List ℕ) → AllByRecursion P xs → AllByRecursion Q xs
all_map P Q f [] h = tt
all_map P Q f (x ∷ xs) h = (f x h.0, all_map P Q f xs h.1)

digits_of_decimal : (n : ℕ) → n < 2 ^ 64 → AllByRecursion IsDigit (decimal n)
digits_of_decimal n small =
    decimal_by_steps (λ _ ds. AllByRecursion IsDigit ds)
    (λ m lt. (record { from_zero = omega arith; to_nine = omega arith }, tt))
    (λ m ds _ h. all_append IsDigit ds ((48 + m % 10) ∷ []) h (record { from_zero = omega arith; to_nine = omega arith }, tt))
    n small

pub parameter_bytes : (n : ℕ) → n < 2 ^ 64 → AllByRecursion (λ byte. IsTrue (is_parameter_byte byte)) (decimal n)
parameter_bytes n small = all_map IsDigit (λ byte. IsTrue (is_parameter_byte byte)) (λ x d. is_digit x d.from_zero d.to_nine) (decimal n) (digits_of_decimal n small)
  where
    is_digit : (x : ℕ) → 48 ≤ x → x ≤ 57 → IsTrue (is_parameter_byte x)
    is_digit x low high = grind (arith, nat_tests)

pub parameter_bytes_of_two : (xs ys : List ℕ) → AllByRecursion (λ byte. IsTrue (is_parameter_byte byte)) xs → AllByRecursion (λ byte. IsTrue (is_parameter_byte byte)) ys
    → AllByRecursion (λ byte. IsTrue (is_parameter_byte byte)) (xs ++ 59 ∷ ys)
parameter_bytes_of_two xs ys hx hy = all_append (λ byte. IsTrue (is_parameter_byte byte)) xs (59 ∷ ys) hx (refl, hy)

no_semicolon : (n : ℕ) → n < 2 ^ 64 → AllByRecursion (λ byte. (byte == 59) ≡ false) (decimal n)
no_semicolon n small = all_map IsDigit (λ byte. (byte == 59) ≡ false) (λ x d. other x d.to_nine) (decimal n) (digits_of_decimal n small)
  where
    other : (x : ℕ) → x ≤ 57 → (x == 59) ≡ false
    other x high = grind (arith, nat_tests)

-- a number that is not above 9,999 is read as it was written
parameter_of : (ds : List ℕ) (n : ℕ) → 0 < length ds → digits_value 10 ds ≡ n → n ≤ 9999 → parameter ds ≡ Some (Some n)
parameter_of [] n h e le = absurd (omega arith)
parameter_of (d ∷ ds) n h e le = rw e (grind (arith, nat_tests))

pub parameter-decimal : (n : ℕ) → n ≤ 9999 → parameter (decimal n) ≡ Some (Some n)
parameter-decimal n le =
    let small : n < 2 ^ 64 = omega arith in
    parameter_of (decimal n) n (decimal_nonempty n small) ((decimal_is_IsNumeral n small).1) le

-- two numbers
pub parameters_of_two : (m n : ℕ) → m ≤ 9999 → n ≤ 9999 → parameters_of (decimal m ++ 59 ∷ decimal n) ≡ Some (Some m ∷ Some n ∷ [])
parameters_of_two m n hm hn =
    let small_m : m < 2 ^ 64 = omega arith in
    let small_n : n < 2 ^ 64 = omega arith in
    let split : slice_split (λ byte. byte == 59) (decimal m ++ 59 ∷ decimal n) ≡ decimal m ∷ decimal n ∷ [] =
    slice_split_at (λ byte. byte == 59) (decimal m) 59 (decimal n) (All-from_recursion (λ byte. (byte == 59) ≡ false) (decimal m) (no_semicolon m small_m)) refl
    ∙ ap (λ parts. decimal m ∷ parts) (slice_split_none (λ byte. byte == 59) (decimal n) (All-from_recursion (λ byte. (byte == 59) ≡ false) (decimal n) (no_semicolon n small_n))) in
    ap each_parameter split ∙ rw (parameter-decimal m hm, parameter-decimal n hn) refl

-- one number
pub parameters_of_one : (n : ℕ) → n ≤ 9999 → parameters_of (decimal n) ≡ Some (Some n ∷ [])
parameters_of_one n le =
    let small : n < 2 ^ 64 = omega arith in
    ap each_parameter (slice_split_none (λ byte. byte == 59) (decimal n) (All-from_recursion (λ byte. (byte == 59) ≡ false) (decimal n) (no_semicolon n small)))
    ∙ rw (parameter-decimal n le) refl
