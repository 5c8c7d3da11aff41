-- Texts in UTF-8 that C gives, which need not be well formed. RFC 3629, section 3.
use Rattle.std.specs.Prelude.{ℕ, ◌≡◌, ◌⊎◌, List, [], ◌∷◌, ◌++◌, IsOk, encode_utf8, false, length, replicate, if◌then◌else◌}
use Rattle.std.specs.Char.{IsScalar, is_control}
use Rattle.std.specs.Str.{IsUtf8, StartsWithNoChar}
use Rattle.scr_cells.specs.Characters.{is_character}
use Rattle.scr_windows.specs.Calls.Adding.{add_str_call, fitted}
use Rattle.huttavel_c.specs.Asking.{on_windows}
use Rattle.huttavel_c.specs.Replies.{added_reply, refused}
use Rattle.huttavel_c.specs.declared.answers.Reply.{Reply}
use Rattle.huttavel_c.specs.declared.sessions.Session.{Session}

-- The bytes are read as these scalar values: no byte is left out, and none is read twice.
pub data AreRead : List ℕ → List ℕ → Type 0 where
  Nothing : AreRead [] []
  -- The bytes of a scalar value are that one.
  WellFormed : (code : ℕ) (bytes codes : List ℕ) → IsScalar code → AreRead bytes codes → AreRead (encode_utf8 code ++ bytes) (code ∷ codes)
  -- A byte at which none begins is U+FFFD.
  Broken : (byte : ℕ) (bytes codes : List ℕ) → StartsWithNoChar (byte ∷ bytes) → AreRead bytes codes → AreRead (byte ∷ bytes) (0xFFFD ∷ codes)

-- Bytes at the front of others are read as these, whatever the rest is read as.
abbrev pub AreReadFirst : (bytes rest codes : List ℕ) → Type 0
AreReadFirst bytes rest codes = (more : List ℕ) → AreRead rest more → AreRead bytes (codes ++ more)

-- A text is added, as it is read. Or memory ran out for one that is not well formed, in a call that nothing else
-- refuses, and all stays as it was.
abbrev pub AddsText : (window : ℕ) → List ℕ → Session → Session → Reply → Type 0
AddsText window bytes old new answer =
    (codes : List ℕ) × AreRead bytes codes
    × (((new ≡ record old { screen = (on_windows old.screen (add_str_call old.screen.desk window codes)).0 }) × (answer ≡ added_reply (add_str_call old.screen.desk window codes).1))
    ⊎ ((new ≡ old) × (answer ≡ refused 4) × IsOk (add_str_call old.screen.desk window codes).1 × ¬ (IsUtf8 bytes)))

-- How many columns a scalar value takes where it is added as a text, none if it is a control character, and what is
-- written in each.
abbrev pub columns_of : ℕ → ℕ
columns_of code = if is_control code then 0 else length (fitted code)

abbrev pub shown_for : ℕ → ℕ
shown_for code = if is_control code then 0xFFFD else if is_character code then code else 0xFFFD

-- Both tell all that is added for it.
abbrev pub FitsIn : (code columns shown : ℕ) → Type 0
FitsIn code columns shown = is_control code ≡ false → fitted code ≡ replicate columns shown
