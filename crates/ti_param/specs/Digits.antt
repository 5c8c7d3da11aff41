-- Decimal digits in texts.
use Rattle.std.specs.Prelude.{ℕ, Bool, ◌&&◌, nat_le, List}
use Rattle.std.specs.List.{list_all}

-- The byte is a decimal digit.
abbrev pub is_digit : ℕ → Bool
is_digit b = nat_le 48 b && nat_le b 57

-- All bytes are decimal digits.
abbrev pub all_digits : List ℕ → Bool
all_digits text = list_all is_digit text
