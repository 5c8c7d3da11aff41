-- Numbers of a source (terminfo(5), "Types of Capabilities"): decimal, octal after 0, hexadecimal after 0x.
use Rattle.std.specs.Prelude.{ℕ, ◌+◌, ◌-◌, ◌*◌, List, [], ◌∷◌, Option, Some, None, ◌==◌, ◌&&◌, ◌||◌, nat_le, nat_lt, if◌then◌else◌}

-- The value of a digit; 16 if the byte is none.
abbrev pub digit : ℕ → ℕ
digit b =
    if nat_le 48 b && nat_le b 57 then b - 48
    else (if nat_le 97 b && nat_le b 102 then b - 87
    else (if nat_le 65 b && nat_le b 70 then b - 55
    else 16))

-- These digits in a base, after digits whose value is n.
abbrev pub digits_after : ℕ → ℕ → List ℕ → Option ℕ
digits_after base n [] = Some n
digits_after base n (b ∷ bs) = if nat_lt (digit b) base then digits_after base (n * base + digit b) bs else None

-- At least one digit.
abbrev pub digits : ℕ → List ℕ → Option ℕ
digits base [] = None
digits base (b ∷ bs) = digits_after base 0 (b ∷ bs)

-- What follows a leading 0: nothing, `x` or `X` and hexadecimal digits, or octal digits.
abbrev pub after_zero : List ℕ → Option ℕ
after_zero [] = Some 0
after_zero (b ∷ bs) = if b == 120 || b == 88 then digits 16 bs else digits 8 (b ∷ bs)

-- The number that a text stands for.
abbrev pub number : List ℕ → Option ℕ
number [] = None
number (b ∷ bs) = if b == 48 then after_zero bs else digits 10 (b ∷ bs)
