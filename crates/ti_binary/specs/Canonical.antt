-- The one form in which an entry is written as a compiled file. term(5), 'Legacy Storage Format'.
use Rattle.std.specs.Prelude.{ℕ, ◌+◌, ◌%◌, ◌||◌, Bool, List, [], ◌∷◌, ◌++◌, length, map, Option, Some, None, is_some, replicate, if◌then◌else◌}
use Rattle.std.specs.List.{flat_map, list_any}
use Rattle.byteorder.specs.Endian.{little_bytes}
use Rattle.ti_caps.specs.Description.{Description}

-- A 16-bit number: two bytes, the lower first.
abbrev pub word : ℕ → List ℕ
word n = little_bytes 2 n

-- Several 16-bit numbers, one after another.
abbrev pub words : List ℕ → List ℕ
words ns = flat_map word ns

-- A list up to its last element that is present.
abbrev pub up_to_last : {A : Type 0} → (A → Bool) → List A → List A
up_to_last present [] = []
up_to_last present (x ∷ xs) = if present x || list_any present xs then x ∷ up_to_last present xs else []

-- The magic number, octal 0432.
abbrev pub magic : ℕ
magic = 282

-- What stands for an absent number or offset.
abbrev pub absent : ℕ
absent = 65535

-- The byte of a flag.
abbrev pub flag_byte : Bool → ℕ
flag_byte present = if present then 1 else 0

-- The 16-bit number of a capability.
abbrev pub number_word : Option ℕ → ℕ
number_word None = absent
number_word (Some n) = n

-- A text with its NUL; nothing if it is absent.
abbrev pub ended : Option (List ℕ) → List ℕ
ended None = []
ended (Some text) = text ++ 0 ∷ []

-- What stands for a text if the string table already holds `size` bytes: the place where the text begins, or that it is
-- absent.
abbrev pub offset_of : ℕ → Option (List ℕ) → ℕ
offset_of size None = absent
offset_of size (Some text) = size

-- The same for each text in turn.
abbrev pub offsets_from : ℕ → List (Option (List ℕ)) → List ℕ
offsets_from size [] = []
offsets_from size (text ∷ texts) = offset_of size text ∷ offsets_from (size + length (ended text)) texts

-- The string table: the texts in order, none shared.
abbrev pub table_of : List (Option (List ℕ)) → List ℕ
table_of texts = flat_map ended texts

-- The flags that are written: up to the last that is set.
abbrev pub kept_flags : Description → List Bool
kept_flags entry = up_to_last (λ present. present) entry.flags

-- The numbers that are written: up to the last that is present.
abbrev pub kept_numbers : Description → List (Option ℕ)
kept_numbers entry = up_to_last is_some entry.numbers

-- The texts that are written: up to the last that is present.
abbrev pub kept_texts : Description → List (Option (List ℕ))
kept_texts entry = up_to_last is_some entry.texts

-- The byte that makes the length of names and flags together even.
abbrev pub padding : ℕ → List ℕ
padding size = replicate (size % 2) 0

-- The six numbers of the header: the magic number; the size of the names with their NUL; how many flags, numbers and
-- offsets there are; and the size of the string table.
abbrev pub header_of : Description → List ℕ
header_of entry =
    magic ∷ (length entry.names + 1) ∷ length (kept_flags entry) ∷ length (kept_numbers entry) ∷ length (kept_texts entry)
    ∷ length (table_of (kept_texts entry)) ∷ []

-- The canonical form of an entry: header, names and NUL, flags, the odd byte, numbers, offsets, string table.
abbrev pub canonical : Description → List ℕ
canonical entry =
    words (header_of entry) ++ entry.names ++ 0 ∷ map flag_byte (kept_flags entry)
    ++ padding (length entry.names + 1 + length (kept_flags entry))
    ++ words (map number_word (kept_numbers entry)) ++ words (offsets_from 0 (kept_texts entry)) ++ table_of (kept_texts entry)

-- The entry with other names.
abbrev pub renamed : Description → List ℕ → Description
renamed entry names = record { names = names; flags = entry.flags; numbers = entry.numbers; texts = entry.texts }
