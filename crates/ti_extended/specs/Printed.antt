-- The source text of a whole entry (infocmp(1)).
use Rattle.std.specs.Prelude.{ℕ, suc, Bool, true, false, not, List, [], ◌∷◌, ◌++◌, ◌+◌, ◌/◌, ◌%◌, ◌==◌, ◌&&◌, ◌||◌, nat_lt, length, take, drop, Option, Some, None, is_none, is_some, if◌then◌else◌}
use Rattle.std.specs.Fmt.{decimal}
use Rattle.std.specs.List.{flat_map}
use Rattle.ti_caps.specs.declared.table.Kind.{Kind}
use Rattle.ti_caps.specs.declared.table.Kind.TheVariants.{Flag, Number, Text}
use Rattle.ti_caps.specs.Standard.{standard_name_at}
use Rattle.ti_source.specs.Printing.Print.{field_line, lines_from}
use Rattle.ti_source.specs.Reading.Escape.{printed_text}
use Rattle.ti_extended.specs.Forms.{flags_among}
use Rattle.ti_extended.specs.Whole.{Capabilities, Whole}

-- The value of a number in its field.
abbrev pub number_value : ℕ → List ℕ
number_value n = 35 ∷ decimal n

-- The byte is printed by `^`.
abbrev pub is_caret_byte : ℕ → Bool
is_caret_byte b = (nat_lt b 32 && not (b == 27)) || b == 127

-- A byte as it is printed behind another: by three octal digits where it would be `^` behind `%`, which other compilers read
-- as an operator (terminfo(5), "Parameterized Strings").
abbrev pub printed_behind : ℕ → ℕ → List ℕ
printed_behind before b =
    if before == 37 && is_caret_byte b then 92 ∷ (48 + b / 64) ∷ (48 + b / 8 % 8) ∷ (48 + b % 8) ∷ [] else printed_text (b ∷ [])

-- The bytes of a text as they are printed, the first behind this byte.
abbrev pub printed_after : ℕ → List ℕ → List ℕ
printed_after before [] = []
printed_after before (b ∷ bs) = printed_behind before b ++ printed_after b bs

-- The value of a text in its field.
abbrev pub text_value : List ℕ → List ℕ
text_value text = 61 ∷ printed_after 0 text

-- The line of a flag at a position, if it is present and has a name in term.h.
abbrev pub flag_line : ℕ → Bool → List ℕ
flag_line slot false = []
flag_line slot true = field_line (standard_name_at Flag slot) []

-- The line of a number.
abbrev pub number_line : ℕ → Option ℕ → List ℕ
number_line slot None = []
number_line slot (Some n) = field_line (standard_name_at Number slot) (number_value n)

-- The line of a text.
abbrev pub text_line : ℕ → Option (List ℕ) → List ℕ
text_line slot None = []
text_line slot (Some text) = field_line (standard_name_at Text slot) (text_value text)

-- The line of a flag with a name of the entry's own.
abbrev pub own_line : List ℕ → List ℕ
own_line name = field_line (Some name) []

-- The lines of numbers with these names.
abbrev pub number_lines : List (List ℕ) → List ℕ → List ℕ
number_lines [] values = []
number_lines (name ∷ names) [] = []
number_lines (name ∷ names) (value ∷ values) = field_line (Some name) (number_value value) ++ number_lines names values

-- The lines of texts with these names.
abbrev pub text_lines : List (List ℕ) → List (List ℕ) → List ℕ
text_lines [] values = []
text_lines (name ∷ names) [] = []
text_lines (name ∷ names) (value ∷ values) = field_line (Some name) (text_value value) ++ text_lines names values

-- The lines of extended capabilities: flags, numbers, texts.
abbrev pub own_lines : Capabilities → List ℕ
own_lines e =
    flat_map own_line (take (flags_among e) e.names)
    ++ (number_lines (take (length e.numbers) (drop (flags_among e) e.names)) e.numbers ++ text_lines (drop (flags_among e + length e.numbers) e.names) e.texts)

-- The names, then the present capabilities that have a name in term.h: flags, numbers, texts, each in the order of
-- positions; then the extended capabilities.
unfoldable pub whole_printed : Whole → List ℕ
whole_printed w =
    w.entry.names ++ (44 ∷ 10 ∷ []) ++ lines_from flag_line 0 w.entry.flags ++ lines_from number_line 0 w.numbers ++ lines_from text_line 0 w.entry.texts
    ++ own_lines w.extended

-- How many of these, from position k on, are there but have no name in term.h.
abbrev pub nameless_from : {A : Type 0} → (A → Bool) → Kind → ℕ → List A → ℕ
nameless_from is_there kind k [] = 0
nameless_from is_there kind k (x ∷ xs) =
    (if is_there x && is_none (standard_name_at kind k) then 1 else 0) + nameless_from is_there kind (suc k) xs

-- How many present capabilities of a whole entry have no name in term.h.
abbrev pub nameless : Whole → ℕ
nameless w =
    nameless_from (λ there. there) Flag 0 w.entry.flags + nameless_from is_some Number 0 w.numbers + nameless_from is_some Text 0 w.entry.texts
