-- Reading a decimal number digit by digit.
use Rattle.std.proofs.Common.{◌≡◌, ℕ, ◌+◌, ◌-◌, ◌*◌, ◌<◌, Bool, true, false, refl, sym, ◌∙◌, arith, List, length, take, get_or, min}
use Rattle.std.specs.List.{list_all}
use Rattle.std.specs.Char.{is_ascii_digit, digit_value}
use Rattle.std.specs.Str.Parse.{digits_value}
use Rattle.std.proofs.lemmas.Bool.{false≢true}
use Rattle.std.proofs.lemmas.Bool.Decides.{nat_tests}
use Rattle.std.proofs.lemmas.List.Folds.{list_all_at}
use Rattle.std.proofs.lemmas.Int.Digits.{digits_value_more}

digit_is : (d : ℕ) → is_ascii_digit d ≡ true → digit_value d ≡ d - 48
digit_is d h = grind (arith, nat_tests)

digit_at : (digits : List ℕ) (i : ℕ) → list_all is_ascii_digit digits ≡ true → i < length digits → (b : Bool) → is_ascii_digit (get_or digits i 0) ≡ b → is_ascii_digit (get_or digits i 0) ≡ true
digit_at digits i h inside true e = e
digit_at digits i h inside false e = absurd (false≢true (sym (list_all_at is_ascii_digit digits i 0 inside e) ∙ h))

pub value_more : (digits : List ℕ) (i value limit : ℕ) → list_all is_ascii_digit digits ≡ true → i < length digits
    → value ≡ min (digits_value 10 (take i digits)) limit
    → min (value * 10 + (get_or digits i 0 - 48)) limit ≡ min (digits_value 10 (take (i + 1) digits)) limit
value_more digits i value limit h inside so_far =
    let d : digit_value (get_or digits i 0) ≡ get_or digits i 0 - 48 = digit_is (get_or digits i 0) (digit_at digits i h inside (is_ascii_digit (get_or digits i 0)) refl) in
    omega (arith, digits_value_more 10 digits i inside)
