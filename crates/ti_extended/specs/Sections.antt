-- What the section of extended capabilities in a compiled file says. term(5), 'Extended Storage Format'.
use Rattle.std.specs.Prelude.{ℕ, ◌+◌, ◌*◌, ◌%◌, ◌==◌, ◌&&◌, ◌||◌, not, nat_le, nat_lt, Bool, List, [], ◌∷◌, ◌++◌, length, map, drop, Option, Some, None, is_some, if◌then◌else◌}
use Rattle.std.specs.List.{flat_map, list_any, before_first}
use Rattle.std.specs.Option.{option_to_list}
use Rattle.ti_binary.specs.Canonical.{table_of}
use Rattle.ti_binary.specs.Files.{flag_said, is_negative, is_nul, is_unended, most_of, numbers_in, numbers_size, part, text_said, word_at, words_in}
use Rattle.ti_binary.specs.declared.widths.Width.{Width}
use Rattle.ti_extended.specs.Whole.{Capabilities}

-- The header: how many flags there are.
abbrev pub flag_count : List ℕ → ℕ
flag_count section = word_at section 0

-- How many numbers.
abbrev pub number_count : List ℕ → ℕ
number_count section = word_at section 2

-- How many texts.
abbrev pub text_count : List ℕ → ℕ
text_count section = word_at section 4

-- The size of the string table. What precedes it, the number of items in the table, says nothing.
abbrev pub table_size : List ℕ → ℕ
table_size section = word_at section 8

-- Each capability has a name.
abbrev pub name_count : List ℕ → ℕ
name_count section = flag_count section + number_count section + text_count section

-- Where the numbers begin: at an even place behind the header and the flags.
abbrev pub numbers_place : List ℕ → ℕ
numbers_place section = 10 + flag_count section + flag_count section % 2

-- Where the offsets of the texts begin.
abbrev pub texts_place : Width → List ℕ → ℕ
texts_place width section = numbers_place section + numbers_size width (number_count section)

-- Where the offsets of the names begin.
abbrev pub names_place : Width → List ℕ → ℕ
names_place width section = texts_place width section + 2 * text_count section

-- Where the string table begins.
abbrev pub table_place : Width → List ℕ → ℕ
table_place width section = names_place width section + 2 * name_count section

-- Where it ends, and the section with it.
abbrev pub end_place : Width → List ℕ → ℕ
end_place width section = table_place width section + table_size section

-- What a number says: its value, or that it is absent if it is negative.
abbrev pub whole_said : Width → ℕ → Option ℕ
whole_said width number = if nat_lt (most_of width) number then None else Some number

-- The flags: whether each is present.
abbrev pub flags_said : List ℕ → List Bool
flags_said section = map flag_said (part section 10 (flag_count section))

-- The numbers, if they are present.
abbrev pub numbers_said : Width → List ℕ → List (Option ℕ)
numbers_said width section =
    map (whole_said width) (numbers_in width (part section (numbers_place section) (numbers_size width (number_count section))) (number_count section))

-- The offsets of the texts.
abbrev pub text_offsets : Width → List ℕ → List ℕ
text_offsets width section = words_in (part section (texts_place width section) (2 * text_count section)) (text_count section)

-- The string table: the texts, and then the names.
abbrev pub table : Width → List ℕ → List ℕ
table width section = part section (table_place width section) (table_size section)

-- The texts, if they are present.
abbrev pub texts_said : Width → List ℕ → List (Option (List ℕ))
texts_said width section = map (text_said (table width section)) (text_offsets width section)

-- What these texts and their NULs take in the table; the names begin there.
abbrev pub name_table : List ℕ → List (Option (List ℕ)) → List ℕ
name_table bytes texts = drop (length (table_of texts)) bytes

-- The names in the table.
abbrev pub names_in_table : Width → List ℕ → List ℕ
names_in_table width section = name_table (table width section) (texts_said width section)

-- The offsets of the names, from where these begin.
abbrev pub name_offsets : Width → List ℕ → List ℕ
name_offsets width section = words_in (part section (names_place width section) (2 * name_count section)) (name_count section)

-- The name at an offset, up to the next NUL.
abbrev pub name_said : List ℕ → ℕ → List ℕ
name_said names offset = before_first is_nul (drop offset names)

-- The names.
abbrev pub names_said : Width → List ℕ → List (List ℕ)
names_said width section = map (name_said (names_in_table width section)) (name_offsets width section)

-- Whether each flag, each number and each text is present.
abbrev pub presence : Width → List ℕ → List Bool
presence width section =
    flags_said section ++ (map is_some (numbers_said width section) ++ map is_some (texts_said width section))

-- The names of those that are present.
abbrev pub kept : List Bool → List (List ℕ) → List (List ℕ)
kept [] names = []
kept (present ∷ more) [] = []
kept (present ∷ more) (name ∷ names) = if present then name ∷ kept more names else kept more names

-- The values that are present.
abbrev pub present : {A : Type 0} → List (Option A) → List A
present values = flat_map option_to_list values

-- The extended capabilities of a section: those that are present. An empty section has none.
abbrev pub capabilities_in : Width → List ℕ → Capabilities
capabilities_in width section = record {
  names = kept (presence width section) (names_said width section);
  numbers = present (numbers_said width section);
  texts = present (texts_said width section);
}

-- A name's offset is negative, or no NUL ends the name.
abbrev pub is_unnamed : List ℕ → ℕ → Bool
is_unnamed names offset = is_negative offset || not (list_any is_nul (drop offset names))

-- The section is as long as its header says, and each text and each name ends within the table.
abbrev pub is_sound : Width → List ℕ → Bool
is_sound width section =
    nat_le 10 (length section)
    && (end_place width section == length section
    && (not (list_any (is_unended (table width section)) (text_offsets width section))
    && not (list_any (is_unnamed (names_in_table width section)) (name_offsets width section))))

-- There is no section, or a sound one.
abbrev pub is_sound_or_empty : Width → List ℕ → Bool
is_sound_or_empty width section = length section == 0 || is_sound width section
