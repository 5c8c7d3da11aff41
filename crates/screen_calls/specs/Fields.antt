-- The fields of a line, and what they spell.
use Rattle.std.specs.Prelude.{ℕ, ℤ, pos, neg_ℤ, ◌+◌, ◌*◌, ◌^◌, ◌==◌, ◌&&◌, nat_le, nat_lt, Bool, true, false, List, [], ◌∷◌, length, take, Option, Some, None, option_and_then, option_map, codes, if◌then◌else◌}
use Rattle.std.specs.List.{join_with_byte, list_all, slice_split}
use Rattle.std.specs.Char.{is_ascii_digit, digit_value}
use Rattle.std.specs.Str.{bytes_eq}
use Rattle.std.specs.Str.Parse.{digits_value}

-- the parts of a text that follow such a byte, where there is one
abbrev pub parts_after : ℕ → Option (List ℕ) → List (List ℕ)
parts_after byte None = []
parts_after byte (Some rest) = slice_split (λ b. b == byte) rest

-- the fields of a text are divided by one blank
abbrev pub fields_of : List ℕ → List (List ℕ)
fields_of text = slice_split (λ b. b == 32) text

-- the fields behind a word; ten of them where there are more, which no call takes
unfoldable pub fields_behind : Option (List ℕ) → List (List ℕ)
fields_behind text = take 10 (parts_after 32 text)

-- the first field, and the text after the blank that follows it, where one does
abbrev pub first_and_rest : List (List ℕ) → List ℕ × Option (List ℕ)
first_and_rest [] = ([], None)
first_and_rest (field ∷ []) = (field, None)
first_and_rest (field ∷ next ∷ fields) = (field, Some (join_with_byte 32 (next ∷ fields)))

unfoldable pub cut : List ℕ → List ℕ × Option (List ℕ)
cut text = first_and_rest (fields_of text)

-- what each field spells, or none where one spells nothing
abbrev pub each : {A : Type 0} → (List ℕ → Option A) → List (List ℕ) → Option (List A)
each spelled [] = Some []
each spelled (field ∷ fields) = option_and_then (λ x. option_map (λ xs. x ∷ xs) (each spelled fields)) (spelled field)

-- decimal digits, one at least, of a number below 2 ^ 32
unfoldable pub number : List ℕ → Option ℕ
number digits =
    if nat_lt 0 (length digits) && list_all is_ascii_digit digits && nat_lt (digits_value 10 digits) (2 ^ 32)
    then Some (digits_value 10 digits)
    else None

-- a number up to a greatest one
abbrev pub up_to : ℕ → List ℕ → Option ℕ
up_to most digits = option_and_then (λ n. if nat_le n most then Some n else None) (number digits)

-- the first field, and the text after the blank that follows it, where one does
unfoldable pub field_and_text : Option (List ℕ) → Option (List ℕ × List ℕ)
field_and_text text = option_and_then (λ t. option_map (λ rest. ((cut t).0, rest)) (cut t).1) text

-- a number of 32 bits with a sign, which is `-` or none
unfoldable pub integer : List ℕ → Option ℤ
integer [] = None
integer (first ∷ rest) =
    if first == 45
    then option_and_then (λ n. if nat_le n (2 ^ 31) then Some (neg_ℤ (pos n)) else None) (number rest)
    else option_and_then (λ n. if nat_lt n (2 ^ 31) then Some (pos n) else None) (number (first ∷ rest))

-- `0` or `1`
unfoldable pub setting : List ℕ → Option Bool
setting text = if bytes_eq text (codes "0") then Some false else (if bytes_eq text (codes "1") then Some true else None)

-- a character that prints, 33 to 126
unfoldable pub graphic : List ℕ → Option ℕ
graphic (byte ∷ []) = if nat_le 33 byte && nat_le byte 126 then Some byte else None
graphic _ = None

-- a colour by its number, or `-` for the terminal's default
unfoldable pub colour : List ℕ → Option (Option ℕ)
colour text = if bytes_eq text (codes "-") then Some None else option_map (λ n. Some n) (number text)

-- two hexadecimal digits, of either case
unfoldable pub hexadecimal_byte : List ℕ → Option ℕ
hexadecimal_byte (high ∷ low ∷ []) =
    if nat_lt (digit_value high) 16 && nat_lt (digit_value low) 16 then Some (digit_value high * 16 + digit_value low) else None
hexadecimal_byte _ = None

-- bytes, one at least
unfoldable pub hexadecimal_bytes : List ℕ → Option (List ℕ)
hexadecimal_bytes text = each hexadecimal_byte (fields_of text)
