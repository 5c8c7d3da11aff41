-- Parts of a line: what is shown, passed over and deleted as one. A part is a character above ASCII that takes one
-- column, with all bytes of its encoding in UTF-8 (RFC 3629, section 3), or else a byte.
use Rattle.std.specs.Prelude.{◌≡◌, ◌⊎◌, ℕ, ◌+◌, ◌<◌, true, List, [], ◌∷◌, ◌++◌, length, drop, encode_utf8, Option, MatchOption}
use Rattle.scr_cells.specs.Characters.{is_beyond_ascii}
use Rattle.edit_text.specs.declared.parts.TextPart.{TextPart}
use Rattle.edit_text.specs.declared.parts.TextPart.TheVariants.{Character, Byte}

-- the bytes of a part
abbrev pub spelled : TextPart → List ℕ
spelled (Character character) = encode_utf8 character
spelled (Byte byte) = byte ∷ []

-- some bytes begin with those of a character above ASCII that takes one column
pub record BeginsWith (bytes : List ℕ) (character : ℕ) : Type 0 where
  pub one_column : is_beyond_ascii character ≡ true
  pub rest : List ℕ
  pub bytes_are : bytes ≡ encode_utf8 character ++ rest

-- they end with those of such a character
pub record EndsWith (bytes : List ℕ) (character : ℕ) : Type 0 where
  pub one_column : is_beyond_ascii character ≡ true
  pub front : List ℕ
  pub bytes_are : bytes ≡ front ++ encode_utf8 character

-- the part that bytes begin with: a character if there is one, and else the first byte
abbrev pub IsFirst : List ℕ → TextPart → Type 0
IsFirst bytes (Character character) = BeginsWith bytes character
IsFirst bytes (Byte byte) = ((rest : List ℕ) × (bytes ≡ byte ∷ rest)) × ((character : ℕ) → ¬ BeginsWith bytes character)

-- the part that they end with
abbrev pub IsLast : List ℕ → TextPart → Type 0
IsLast bytes (Character character) = EndsWith bytes character
IsLast bytes (Byte byte) = ((front : List ℕ) × (bytes ≡ front ++ byte ∷ [])) × ((character : ℕ) → ¬ EndsWith bytes character)

-- the same where there may be no bytes, and so no part
abbrev pub IsFirstPart : List ℕ → Option TextPart → Type 0
IsFirstPart bytes part = MatchOption part (bytes ≡ []) (IsFirst bytes)

abbrev pub IsLastPart : List ℕ → Option TextPart → Type 0
IsLastPart bytes part = MatchOption part (bytes ≡ []) (IsLast bytes)

-- such a character begins at a column of a line, and another column is among its bytes
pub record IsWithin (line : List ℕ) (start column : ℕ) : Type 0 where
  pub character : ℕ
  pub begins : BeginsWith (drop start line) character
  pub after : start < column
  pub before : column < start + length (encode_utf8 character)

-- the column itself if it is between parts, and else the one where the character begins that it is within
abbrev pub IsBetween : List ℕ → ℕ → ℕ → Type 0
IsBetween line column result = ((result ≡ column) × ((start : ℕ) → ¬ IsWithin line start column)) ⊎ IsWithin line result column
