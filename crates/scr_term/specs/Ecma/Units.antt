-- An ECMA-48 text and its units: characters, single-byte control functions, and control sequences. ECMA-48, 5.4
-- 'Control sequences', 8.3.5 BS, 8.3.15 CR; ISO 646 for the characters of ASCII, and RFC 3629 (UTF-8) for others.
use Rattle.std.specs.Prelude.{ℕ, ◌≡◌, ◌≢◌, ◌≤◌, ◌==◌, ◌||◌, Bool, IsTrue, List, [], ◌∷◌, ◌++◌, encode_utf8, length, ◌⊎◌}
use Rattle.std.specs.List.{AllByRecursion, flat_map}
use Rattle.std.specs.Char.{IsScalar, is_ascii_digit}
use Rattle.scr_cells.specs.Characters.{IsAscii}
use Rattle.scr_cells.specs.declared.charsets.Charset.{Charset}
use Rattle.scr_cells.specs.declared.charsets.Charset.TheVariants.{Utf8}

-- A unit: a character of ASCII; a scalar value above it in UTF-8; a control function of one byte; or a control sequence
-- with its parameter bytes and final byte.
pub data EcmaUnit : Type 0 where
  Graphic : (byte : ℕ) → EcmaUnit
  Spelled : (code : ℕ) → EcmaUnit
  Control : (byte : ℕ) → EcmaUnit
  Sequence : (parameters : List ℕ) → (final : ℕ) → EcmaUnit

-- The bytes of a unit. A control sequence is ESC [, its parameter bytes and its final byte.
abbrev pub spelling : EcmaUnit → List ℕ
spelling (Graphic byte) = byte ∷ []
spelling (Spelled code) = encode_utf8 code
spelling (Control byte) = byte ∷ []
spelling (Sequence parameters final) = 27 ∷ 91 ∷ parameters ++ final ∷ []

-- A digit, or the semicolon that separates parameters.
abbrev pub is_parameter_byte : ℕ → Bool
is_parameter_byte byte = is_ascii_digit byte || (byte == 59)

-- A control sequence of at most 64 bytes.
pub record IsSequence (parameters : List ℕ) (final : ℕ) : Type 0 where
  pub digits : AllByRecursion (λ byte. IsTrue (is_parameter_byte byte)) parameters
  pub short : length parameters ≤ 61
  pub from_at_sign : 64 ≤ final
  pub to_tilde : final ≤ 126

-- A scalar value from U+00A0 to U+FFFF, which is a unit where the charset is UTF-8.
pub record IsSpelled (charset : Charset) (code : ℕ) : Type 0 where
  pub utf8 : charset ≡ Utf8
  pub from : 160 ≤ code
  pub few : code ≤ 65535
  pub scalar : IsScalar code

-- A character, backspace or carriage return, or a control sequence.
abbrev pub IsUnit : Charset → EcmaUnit → Type 0
IsUnit charset (Graphic byte) = IsAscii byte
IsUnit charset (Spelled code) = IsSpelled charset code
IsUnit charset (Control byte) = (byte ≡ 8) ⊎ (byte ≡ 13)
IsUnit charset (Sequence parameters final) = IsSequence parameters final

-- The text is these units, followed by the rest.
pub record IsDivision (charset : Charset) (text : List ℕ) (units : List EcmaUnit) (rest : List ℕ) : Type 0 where
  pub whole : text ≡ flat_map spelling units ++ rest
  pub each : AllByRecursion (IsUnit charset) units

-- A proper beginning of a unit: not empty, and not all of it.
abbrev pub IsWaiting : Charset → List ℕ → Type 0
IsWaiting charset part = (part ≢ []) × ((unit : EcmaUnit) × (more : List ℕ) × IsUnit charset unit × (more ≢ []) × (part ++ more ≡ spelling unit))

-- However the text goes on, it does not begin with a unit.
abbrev pub BeginsNoUnit : Charset → List ℕ → Type 0
BeginsNoUnit charset part = (part ≢ []) × ((unit : EcmaUnit) (more others : List ℕ) → IsUnit charset unit → part ++ more ≢ spelling unit ++ others)
