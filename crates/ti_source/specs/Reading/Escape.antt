-- The text of a string capability: its escapes, and how it is printed (terminfo(5), "Types of Capabilities").
use Rattle.std.specs.Prelude.{◌<◌, ℕ, zero, suc, ◌+◌, ◌-◌, ◌*◌, ◌/◌, ◌%◌, Bool, false, List, [], ◌∷◌, ◌==◌, ◌&&◌, ◌||◌, nat_le, nat_lt, if◌then◌else◌}
use Rattle.std.specs.List.{flat_map}

-- The byte is an octal digit.
abbrev pub is_octal : ℕ → Bool
is_octal b = nat_le 48 b && nat_le b 55

-- The bytes begin with three octal digits.
abbrev pub begins_octal : List ℕ → Bool
begins_octal (a ∷ b ∷ c ∷ bs) = is_octal a && (is_octal b && is_octal c)
begins_octal _ = false

-- The low eight bits of the number that these digits give.
abbrev pub octal : List ℕ → ℕ
octal (a ∷ b ∷ c ∷ bs) = ((a - 48) * 64 + (b - 48) * 8 + (c - 48)) % 256
octal _ = 0

-- What a backslash and this byte stand for; `\0` is 128, since a text has no byte 0.
abbrev pub letter : ℕ → ℕ
letter c =
    if c == 69 || c == 101 then 27
    else (if c == 110 || c == 108 then 10
    else (if c == 114 then 13
    else (if c == 116 then 9
    else (if c == 98 then 8
    else (if c == 102 then 12
    else (if c == 97 then 7
    else (if c == 115 then 32
    else (if c == 48 then 128
    else c))))))))

-- What `^` and this byte stand for: a control character.
abbrev pub control : ℕ → ℕ
control c = if c == 63 then 127 else c % 32

-- How many bytes write the first character of a text.
abbrev pub written_length : List ℕ → ℕ
written_length (b ∷ c ∷ bs) =
    if b == 92 && begins_octal (c ∷ bs) then 4 else (if b == 92 || b == 94 then 2 else 1)
written_length _ = 1

-- What they stand for; a backslash or `^` that is the last byte stands for itself.
abbrev pub meant : List ℕ → ℕ
meant [] = 0
meant (b ∷ []) = b
meant (b ∷ c ∷ bs) =
    if b == 92 && begins_octal (c ∷ bs) then octal (c ∷ bs)
    else (if b == 92 then letter c else (if b == 94 then control c else b))

-- A value that would be 0 is 128.
abbrev pub not_nul : ℕ → ℕ
not_nul v = if v == 0 then 128 else v

-- The characters of a text, after k bytes that belong to the one before.
abbrev pub decoded_after : ℕ → List ℕ → List ℕ
decoded_after k [] = []
decoded_after zero (b ∷ bs) = not_nul (meant (b ∷ bs)) ∷ decoded_after (written_length (b ∷ bs) - 1) bs
decoded_after (suc k) (b ∷ bs) = decoded_after k bs

-- The text that a string field stands for.
abbrev pub decoded : List ℕ → List ℕ
decoded bytes = decoded_after 0 bytes

-- A byte as it is printed.
abbrev pub printed_byte : ℕ → List ℕ
printed_byte b =
    if b == 27 then 92 ∷ 69 ∷ []
    else (if nat_lt b 32 then 94 ∷ (b + 64) ∷ []
    else (if b == 127 then 94 ∷ 63 ∷ []
    else (if b == 32 then 92 ∷ 115 ∷ []
    else (if b == 44 || (b == 92 || b == 94) then 92 ∷ b ∷ []
    else (if nat_lt b 128 then b ∷ []
    else 92 ∷ (48 + b / 64) ∷ (48 + b / 8 % 8) ∷ (48 + b % 8) ∷ [])))))

-- A text as it is printed.
abbrev pub printed_text : List ℕ → List ℕ
printed_text bytes = flat_map printed_byte bytes

-- All are bytes, and none is 0.
abbrev pub IsText : List ℕ → Type 0
IsText [] = Unit {0}
IsText (b ∷ bs) = (0 < b) × (b < 256) × IsText bs
