-- The source text of an entry (tic(1), infocmp(1)).
use Rattle.std.specs.Prelude.{ℕ, suc, Bool, true, false, List, [], ◌∷◌, ◌++◌, Option, Some, None, map}
use Rattle.std.specs.Fmt.{decimal}
use Rattle.std.specs.List.{range_with_len}
use Rattle.ti_caps.specs.declared.table.Kind.TheVariants.{Flag, Number, Text}
use Rattle.ti_caps.specs.Table.{name_at}
use Rattle.ti_caps.specs.Description.{Description, flag_at, number_at, text_at}
use Rattle.ti_source.specs.Reading.Escape.{printed_text}

-- A field on a line of its own: a tab, the name, its value, a comma and LF; nothing without a name.
abbrev pub field_line : Option (List ℕ) → List ℕ → List ℕ
field_line None value = []
field_line (Some name) value = 9 ∷ (name ++ (value ++ 44 ∷ 10 ∷ []))

-- The line of a flag, if it is present.
abbrev pub flag_line : ℕ → Bool → List ℕ
flag_line slot false = []
flag_line slot true = field_line (name_at Flag slot) []

-- The line of a number, if it is present.
abbrev pub number_line : ℕ → Option ℕ → List ℕ
number_line slot None = []
number_line slot (Some n) = field_line (name_at Number slot) (35 ∷ decimal n)

-- The line of a text, if it is present.
abbrev pub text_line : ℕ → Option (List ℕ) → List ℕ
text_line slot None = []
text_line slot (Some text) = field_line (name_at Text slot) (61 ∷ printed_text text)

-- The lines of the positions from k on.
abbrev pub lines_from : {A : Type 0} → (ℕ → A → List ℕ) → ℕ → List A → List ℕ
lines_from line k [] = []
lines_from line k (x ∷ xs) = line k x ++ lines_from line (suc k) xs

-- The names, then the present capabilities with a name: booleans, numbers, strings, each in the order of their
-- positions.
unfoldable pub printed : Description → List ℕ
printed d =
    d.names ++ (44 ∷ 10 ∷ []) ++ lines_from flag_line 0 d.flags ++ lines_from number_line 0 d.numbers ++ lines_from text_line 0 d.texts

-- What stands at a position with a name; `absent` if it has none.
abbrev pub if_named : {A : Type 0} → Option (List ℕ) → A → A → A
if_named None absent x = absent
if_named (Some name) absent x = x

-- The description without its unnamed capabilities.
unfoldable pub named_only : Description → Description
named_only d = record {
  names = d.names;
  flags = map (λ slot. if_named (name_at Flag slot) false (flag_at d slot)) (range_with_len 0 64);
  numbers = map (λ slot. if_named (name_at Number slot) None (number_at d slot)) (range_with_len 0 64);
  texts = map (λ slot. if_named (name_at Text slot) None (text_at d slot)) (range_with_len 0 512);
}
