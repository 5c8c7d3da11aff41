-- How a text is spelled in a source (terminfo(5), "Types of Capabilities"): one rule for each escape.
use Rattle.std.specs.Prelude.{◌≡◌, ◌≢◌, ◌⊎◌, ◌↔◌, ◌<◌, ℕ, ◌+◌, ◌-◌, ◌*◌, ◌%◌, true, false, List, [], ◌∷◌, ◌==◌}
use Rattle.std.specs.List.{list_any}
use Rattle.ti_caps.specs.Description.{has_nul}
use Rattle.ti_source.specs.Reading.Escape.{is_octal, begins_octal, decoded}

-- The letters with a meaning after a backslash: E e n l r t b f a s 0.
abbrev pub letters : List ℕ
letters = 69 ∷ 101 ∷ 110 ∷ 108 ∷ 114 ∷ 116 ∷ 98 ∷ 102 ∷ 97 ∷ 115 ∷ 48 ∷ []

-- A text has no byte 0; 128 stands in its place.
pub data IsFor : ℕ → ℕ → Type 0 where
  itself : {byte : ℕ} → 0 < byte → IsFor byte byte
  nul : IsFor 128 0

-- `Spells bytes text`: these bytes of a source are this text. The escapes:
-- \E and \e, escape; \n and \l, line feed; \r, carriage return; \t, tab; \b, backspace; \f, form feed; \a, bell; \s, blank;
-- \ and three octal digits, the low eight bits of that number, or 128 for 0;
-- \0 that does not begin three octal digits, 128; \ and any other byte, that byte;
-- ^?, delete; ^ and any other byte, the control character of its low five bits, or 128 for 0.
-- A \ or ^ that is the last byte stands for itself, and so does any other byte.
pub data Spells : List ℕ → List ℕ → Type 0 where
  nothing : Spells [] []
  upper_e : {bytes text : List ℕ} → Spells bytes text → Spells (92 ∷ 69 ∷ bytes) (27 ∷ text)
  lower_e : {bytes text : List ℕ} → Spells bytes text → Spells (92 ∷ 101 ∷ bytes) (27 ∷ text)
  letter_n : {bytes text : List ℕ} → Spells bytes text → Spells (92 ∷ 110 ∷ bytes) (10 ∷ text)
  letter_l : {bytes text : List ℕ} → Spells bytes text → Spells (92 ∷ 108 ∷ bytes) (10 ∷ text)
  letter_r : {bytes text : List ℕ} → Spells bytes text → Spells (92 ∷ 114 ∷ bytes) (13 ∷ text)
  letter_t : {bytes text : List ℕ} → Spells bytes text → Spells (92 ∷ 116 ∷ bytes) (9 ∷ text)
  letter_b : {bytes text : List ℕ} → Spells bytes text → Spells (92 ∷ 98 ∷ bytes) (8 ∷ text)
  letter_f : {bytes text : List ℕ} → Spells bytes text → Spells (92 ∷ 102 ∷ bytes) (12 ∷ text)
  letter_a : {bytes text : List ℕ} → Spells bytes text → Spells (92 ∷ 97 ∷ bytes) (7 ∷ text)
  letter_s : {bytes text : List ℕ} → Spells bytes text → Spells (92 ∷ 115 ∷ bytes) (32 ∷ text)
  digits : {a b c byte : ℕ} {bytes text : List ℕ} →
      is_octal a ≡ true → is_octal b ≡ true → is_octal c ≡ true → IsFor byte (((a - 48) * 64 + (b - 48) * 8 + (c - 48)) % 256) →
      Spells bytes text → Spells (92 ∷ a ∷ b ∷ c ∷ bytes) (byte ∷ text)
  zero : {bytes text : List ℕ} → begins_octal (48 ∷ bytes) ≡ false → Spells bytes text → Spells (92 ∷ 48 ∷ bytes) (128 ∷ text)
  other : {c : ℕ} {bytes text : List ℕ} →
      list_any (λ k. c == k) letters ≡ false → begins_octal (c ∷ bytes) ≡ false → 0 < c → Spells bytes text → Spells (92 ∷ c ∷ bytes) (c ∷ text)
  delete : {bytes text : List ℕ} → Spells bytes text → Spells (94 ∷ 63 ∷ bytes) (127 ∷ text)
  control : {c byte : ℕ} {bytes text : List ℕ} → c ≢ 63 → IsFor byte (c % 32) → Spells bytes text → Spells (94 ∷ c ∷ bytes) (byte ∷ text)
  last : {b : ℕ} → (b ≡ 92) ⊎ (b ≡ 94) → Spells (b ∷ []) (b ∷ [])
  plain : {b : ℕ} {bytes text : List ℕ} → b ≢ 92 → b ≢ 94 → 0 < b → Spells bytes text → Spells (b ∷ bytes) (b ∷ text)

-- Bytes without a 0 spell one text: the one that is read.
abbrev pub AreSpelled : Type 0
AreSpelled = (bytes text : List ℕ) → has_nul bytes ≡ false → Spells bytes text ↔ (text ≡ decoded bytes)
