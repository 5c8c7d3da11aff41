-- How the next byte of an ECMA-48 text is read. ECMA-48, 5.4; RFC 3629, 4.
use Rattle.std.specs.Prelude.{ℕ, ◌≡◌, ◌++◌, ◌==◌, ◌&&◌, ◌||◌, Bool, true, List, [], ◌∷◌, Option, Some, None, ◌⊎◌, encode_utf8, if◌then◌else◌, nat_le}
use Rattle.scr_cells.specs.Characters.{IsAscii, is_utf8}
use Rattle.scr_cells.specs.declared.charsets.Charset.{Charset}
use Rattle.scr_term.specs.Operations.States.{TerminalState}
use Rattle.scr_term.specs.Ecma.Units.{IsSequence, IsSpelled, IsWaiting, BeginsNoUnit}
use Rattle.scr_terminal.specs.Ecma.Screens.{ScreenView}
use Rattle.scr_terminal.specs.declared.ecma.readings.Reading.{Reading}
use Rattle.scr_terminal.specs.declared.ecma.readings.Reading.TheVariants.{Graphic, Spelled, Control, Held, Last, Other}

-- the final byte of a control sequence, after the rest of it
abbrev pub IsLast : List ℕ → ℕ → Type 0
IsLast part byte = (parameters : List ℕ) × (part ≡ 27 ∷ 91 ∷ parameters) × IsSequence parameters byte

-- what a byte is after a part of a unit: a character of ASCII, the last byte of another character, a control function
-- of one byte, a further part of a unit, the last byte of a control sequence, or something that begins no unit
abbrev pub IsReading : Charset → List ℕ → ℕ → Reading → Type 0
IsReading charset part byte Graphic = (part ≡ []) × IsAscii byte
IsReading charset part byte (Spelled code) = IsSpelled charset code × (part ++ byte ∷ [] ≡ encode_utf8 code)
IsReading charset part byte Held = IsWaiting charset (part ++ byte ∷ [])
IsReading charset part byte Last = IsLast part byte
IsReading charset part byte Control = (part ≡ []) × ((byte ≡ 8) ⊎ (byte ≡ 13))
IsReading charset part byte Other = BeginsNoUnit charset (part ++ byte ∷ [])

-- the first byte of a scalar value from U+00A0 to U+FFFF in UTF-8
abbrev pub is_first : Charset → ℕ → Bool
is_first charset byte = is_utf8 charset && (nat_le 0xC2 byte && nat_le byte 0xEF)

-- the second byte of a scalar value from U+00A0 to U+FFFF in UTF-8, after a first byte that begins one: C1 control
-- functions, overlong spellings and surrogates are left out
abbrev pub is_second : ℕ → ℕ → Bool
is_second first byte =
    nat_le (if first == 0xC2 || first == 0xE0 then 0xA0 else 0x80) byte && nat_le byte (if first == 0xED then 0x9F else 0xBF)

-- the screen after a unit that leads to this state, or that is undefined
abbrev pub acted : ScreenView → Option TerminalState → ScreenView
acted screen (Some state) = record screen { state = state; waiting = [] }
acted screen None = record screen { waiting = []; undefined = true }
