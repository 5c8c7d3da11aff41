-- An entry with all that a compiled file may hold: numbers up to 2147483647, and extended (user-defined) capabilities.
use Rattle.std.specs.Prelude.{ℕ, ◌≡◌, ◌+◌, Bool, true, false, List, [], ◌∷◌, Option, Some, None, length, map, min, is_none, not, ◌&&◌, ◌||◌, ◌==◌, nat_le}
use Rattle.std.specs.List.{list_all, list_any}
use Rattle.std.specs.Str.{bytes_eq}
use Rattle.ti_caps.specs.Description.{Description, has_nul}
use Rattle.ti_caps.specs.Standard.{standard_capability_of}

-- Extended capabilities: the names of the flags, then those of the numbers, then those of the texts; and the value of each
-- number and text, in the same order.
pub record Capabilities : Type 0 where
  pub names : List (List ℕ)
  pub numbers : List ℕ
  pub texts : List (List ℕ)

-- None at all.
abbrev pub no_capabilities : Capabilities
no_capabilities = record { names = []; numbers = []; texts = [] }

-- An entry in which every number is at most 32767, the numbers as they are, by position, and the extended capabilities.
pub record Whole : Type 0 where
  pub entry : Description
  pub numbers : List (Option ℕ)
  pub extended : Capabilities

-- The byte can stand in a name of a field: it is graphic, and no comma, #, =, @, backslash or caret.
abbrev pub is_field_byte : ℕ → Bool
is_field_byte b = nat_le 33 b && (nat_le b 126 && not (b == 44 || (b == 35 || (b == 61 || (b == 64 || (b == 92 || b == 94))))))

-- The name has a first byte, which is no full stop.
abbrev pub begins_field : List ℕ → Bool
begins_field [] = false
begins_field (b ∷ bs) = not (b == 46)

-- The name is one that a source can give an extended capability: it is no name of term.h, and a field with it is none that
-- is left out or uses another entry.
unfoldable pub is_extended_name : List ℕ → Bool
is_extended_name name =
    list_all is_field_byte name && (begins_field name && (not (bytes_eq name (117 ∷ 115 ∷ 101 ∷ [])) && is_none (standard_capability_of name)))

-- No name occurs twice.
abbrev pub are_distinct : List (List ℕ) → Bool
are_distinct [] = true
are_distinct (name ∷ names) = not (list_any (bytes_eq name) names) && are_distinct names

-- The number has 31 bits.
abbrev pub is_small : ℕ → Bool
is_small n = nat_le n 2147483647

-- The text has no byte 0.
abbrev pub is_whole_text : List ℕ → Bool
is_whole_text text = not (has_nul text)

-- What holds of extended capabilities: good names, none twice; as many as there are numbers and texts, or more; numbers up to
-- 2147483647; and texts without a byte 0.
abbrev pub are_capabilities : Capabilities → Bool
are_capabilities e =
    list_all is_extended_name e.names && (are_distinct e.names && (nat_le (length e.numbers + length e.texts) (length e.names)
    && (list_all is_small e.numbers && list_all is_whole_text e.texts)))

-- The number that an entry has in the place of a number: at most 32767.
abbrev pub clamped : Option ℕ → Option ℕ
clamped None = None
clamped (Some n) = Some (min n 32767)

-- The number has 31 bits, if there is one.
abbrev pub is_small_number : Option ℕ → Bool
is_small_number None = true
is_small_number (Some n) = is_small n

-- What holds of every whole entry: its entry has its numbers, each at most 32767, and they have 31 bits.
pub record IsWhole (w : Whole) : Type 0 where
  pub clamps : w.entry.numbers ≡ map clamped w.numbers
  pub small : list_all is_small_number w.numbers ≡ true
