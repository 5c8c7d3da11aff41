-- The fields of a line and the forms of a field (terminfo(5), "Preparing Descriptions").
use Rattle.std.specs.Prelude.{ℕ, ◌+◌, ◌-◌, Bool, false, List, [], ◌∷◌, Option, Some, None, length, take, drop, ◌==◌, ◌&&◌, ◌||◌, not, if◌then◌else◌}
use Rattle.std.specs.List.{onto_first, position_or_len, prefix_len, suffix_len}
use Rattle.std.specs.Str.{bytes_eq}

-- The byte takes the next one with it: `\` or `^`.
abbrev pub takes_next : ℕ → Bool
takes_next b = b == 92 || b == 94

-- The fields of a text: the parts between its commas; a comma that the byte before takes ends nothing.
abbrev pub fields_after : Bool → List ℕ → List (List ℕ)
fields_after taken [] = [] ∷ []
fields_after taken (b ∷ bs) =
    if not taken && b == 44 then [] ∷ fields_after false bs else onto_first b (fields_after (not taken && takes_next b) bs)

-- The fields of a text.
abbrev pub fields : List ℕ → List (List ℕ)
fields bytes = fields_after false bytes

-- A blank or a tab.
abbrev pub is_blank : ℕ → Bool
is_blank b = b == 32 || b == 9

-- The text without blanks and tabs at its start.
abbrev pub without_lead : List ℕ → List ℕ
without_lead bytes = drop (prefix_len is_blank bytes) bytes

-- The text without blanks and tabs at its end.
abbrev pub without_trail : List ℕ → List ℕ
without_trail bytes = take (length bytes - suffix_len is_blank bytes) bytes

-- What ends the name of a field: `#`, `=` or `@`.
abbrev pub ends_name : ℕ → Bool
ends_name b = b == 35 || (b == 61 || b == 64)

-- The five forms of a field, one that is skipped, and one with bytes after `@`.
pub data Form : Type 0 where
  Nothing : Form
  Plain : List ℕ → Form
  Numeric : List ℕ → List ℕ → Form
  Textual : List ℕ → List ℕ → Form
  Cancelled : List ℕ → Form
  Refers : List ℕ → Form
  Odd : List ℕ → Form

-- The form by its name, by what follows the name, and by the text of a string, which keeps its last blanks.
abbrev pub form_by : List ℕ → List ℕ → List ℕ → Form
form_by name [] text = Plain name
form_by name (e ∷ value) text =
    if e == 35 then Numeric name value
    else (if e == 61 then (if bytes_eq name (117 ∷ 115 ∷ 101 ∷ []) then Refers value else Textual name text)
    else (if length value == 0 then Cancelled name else Odd name))

-- How many bytes the name of a field has.
abbrev pub name_length : List ℕ → ℕ
name_length field = position_or_len ends_name field

-- An empty field, and one that begins with a dot, are skipped.
abbrev pub form_of_trimmed : List ℕ → List ℕ → Form
form_of_trimmed [] whole = Nothing
form_of_trimmed (b ∷ bs) whole =
    if b == 46 then Nothing
    else form_by (take (name_length (b ∷ bs)) (b ∷ bs)) (drop (name_length (b ∷ bs)) (b ∷ bs)) (drop (name_length (b ∷ bs) + 1) whole)

-- The form of a field.
abbrev pub form_of : List ℕ → Form
form_of field = form_of_trimmed (without_trail (without_lead field)) (without_lead field)

-- The fields after the comma that follows the first one.
abbrev pub later_fields : Option (List ℕ) → List (List ℕ)
later_fields None = []
later_fields (Some bytes) = fields bytes
