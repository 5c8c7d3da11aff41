-- Characters: what stands in one place of a window or of a terminal. X/Open Curses Issue 7, 'Characters'; Unicode
-- Standard Annex 11, 'Definitions' (columns); the Unicode Standard, section 4.5 (general categories).
use Rattle.std.specs.Prelude.{ℕ, Bool, true, false, ◌≡◌, ◌+◌, ◌-◌, ◌<◌, ◌≤◌, ◌==◌, ◌&&◌, ◌||◌, nat_le, nat_lt, IsTrue, Some, List, [], ◌∷◌, codes, length, slice_index, if◌then◌else◌}
use Rattle.std.specs.Char.{IsScalar}
use Rattle.std.specs.Int.{is_in_range}
use Rattle.std.specs.Option.{option_eq}
use Rattle.ucd_category.specs.GeneralCategory.{general_category}
use Rattle.ucd_category.specs.declared.GeneralCategory.{GeneralCategory}
use Rattle.ucd_category.specs.declared.GeneralCategory.TheVariants.{Control, Format, LineSeparator, ParagraphSeparator, Surrogate, Unassigned}
use Rattle.unicode_width.specs.Width.{char_width}
use Rattle.scr_cells.specs.declared.charsets.Charset.{Charset}
use Rattle.scr_cells.specs.declared.charsets.Charset.TheVariants.{Ascii, Utf8}

-- A character of ASCII: the blank, or a graphic character.
abbrev pub IsAscii : ℕ → Type 0
IsAscii code = (32 ≤ code) × (code ≤ 126)

-- The same, as a test.
abbrev pub is_ascii : ℕ → Bool
is_ascii code = nat_le 32 code && nat_le code 126

-- Characters of this general category are shown as a glyph or as a space. Those that are not assigned, such as
-- noncharacters, are not; those of private use are.
abbrev pub is_shown : GeneralCategory → Bool
is_shown Control = false
is_shown Format = false
is_shown Surrogate = false
is_shown Unassigned = false
is_shown LineSeparator = false
is_shown ParagraphSeparator = false
is_shown _ = true

-- A character above ASCII: a Unicode scalar value from U+00A0 to U+FFFF that is shown and takes one column. So none is
-- drawn over the one before it, and ideographs, emoji and the soft hyphen are out.
unfoldable pub is_beyond_ascii : ℕ → Bool
is_beyond_ascii code =
    (is_in_range 0xA0 0xD7FF code || is_in_range 0xE000 0xFFFF code)
    && (option_eq ◌==◌ (char_width false code) (Some 1) && is_shown (general_category code))

-- A character.
abbrev pub is_character : ℕ → Bool
is_character code = is_ascii code || is_beyond_ascii code

-- The same, as a fact.
abbrev pub IsCharacter : ℕ → Type 0
IsCharacter code = IsTrue (is_character code)

-- Runs of characters that have a likeness in ASCII: the code of the first, and the bytes for it and those after it.
-- They are Latin letters and signs; pi; dashes; quotation marks; bullets; the ellipsis; arrows; the signs for unequal,
-- less or equal and greater or equal; scan lines; lines, with `-` for what has horizontal parts alone, `|` for what has
-- vertical parts alone and `+` for what joins or turns; blocks; triangles; the diamond.
unfoldable pub likenesses : List (ℕ × List ℕ)
likenesses =
    (0x00A0, codes " !cL$Y|S\"ca<--R-o+23'uP.,1o>///?AAAAAAACEEEEIIIIDNOOOOOxOUUUUYTsaaaaaaaceeeeiiiidnooooo/ouuuuyty")
    ∷ (0x03C0, codes "*")
    ∷ (0x2010, codes "------")
    ∷ (0x2018, codes "''''\"\"\"\"")
    ∷ (0x2022, codes "o")
    ∷ (0x2026, codes ".")
    ∷ (0x2190, codes "<^>v")
    ∷ (0x21D0, codes "<^>v")
    ∷ (0x2219, codes "o")
    ∷ (0x2260, codes "!")
    ∷ (0x2264, codes "<>")
    ∷ (0x23BA, codes "----")
    ∷ (0x2500, codes "--||--||--||++++++++++++++++++++++++++++++++++++++++++++++++++++++++++++++++--||-|+++++++++++++++++++++++++++++++/\\X-|-|-|-|-|-|")
    ∷ (0x2580, codes "################################")
    ∷ (0x25AE, codes "#")
    ∷ (0x25B2, codes "^^^^>>>>>>vvvv<<<<<<")
    ∷ (0x25C6, codes "+")
    ∷ (0x25CF, codes "o")
    ∷ []

-- The byte that the first run with this character has for it, and `?` where there is no such run.
unfoldable pub likeness_in : List (ℕ × List ℕ) → ℕ → ℕ
likeness_in [] code = 63
likeness_in (run ∷ runs) code =
    if nat_le run.0 code && nat_lt code (run.0 + length run.1) then slice_index run.1 (code - run.0) else likeness_in runs code

-- The stand-in of a character: the byte that is shown for it where the terminal has ASCII alone.
unfoldable pub stand_in : ℕ → ℕ
stand_in code = if nat_lt code 128 then code else likeness_in likenesses code

-- The charset is UTF-8.
abbrev pub is_utf8 : Charset → Bool
is_utf8 Ascii = false
is_utf8 Utf8 = true

-- What a terminal with this charset shows of a character: itself in UTF-8, and its stand-in in ASCII.
unfoldable pub seen_character : Charset → ℕ → ℕ
seen_character Ascii code = stand_in code
seen_character Utf8 code = code

-- Laws of characters: those of ASCII are the ones below 128; all are scalar values that fit 16 bits; each below 128
-- stands for itself, a character of ASCII for each, and a byte below 128 for any number. The shown form of a character
-- is one, and of those below 128 it is themselves; in ASCII it is one of ASCII. From 128 on all are characters above
-- ASCII.
pub record CharacterLaws : Type 0 where
  pub ascii : (code : ℕ) → IsAscii code → IsCharacter code
  pub below : (code : ℕ) → code < 128 → IsCharacter code → IsAscii code
  pub scalar : (code : ℕ) → IsCharacter code → IsScalar code
  pub few : (code : ℕ) → IsCharacter code → code < 65536
  pub itself : (code : ℕ) → code < 128 → stand_in code ≡ code
  pub stand_in : (code : ℕ) → IsCharacter code → IsAscii (stand_in code)
  pub low : (code : ℕ) → seen_character Ascii code < 128
  pub seen : (charset : Charset) (code : ℕ) → IsCharacter code → IsCharacter (seen_character charset code)
  pub seen_itself : (charset : Charset) (code : ℕ) → code < 128 → seen_character charset code ≡ code
  pub seen_ascii : (code : ℕ) → IsCharacter code → IsAscii (seen_character Ascii code)
  pub seen_utf8 : (code : ℕ) → seen_character Utf8 code ≡ code
  pub beyond : (code : ℕ) → IsCharacter code → 128 ≤ code → is_beyond_ascii code ≡ true
