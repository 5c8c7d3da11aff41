-- The one form in which a whole entry is written. term(5), 'Extended Storage Format' and 'Extended Number Format'.
use Rattle.std.specs.Prelude.{ℕ, ◌+◌, ◌-◌, ◌==◌, ◌||◌, nat_lt, Bool, false, List, [], ◌∷◌, ◌++◌, length, take, drop, Option, Some, None, replicate, if◌then◌else◌}
use Rattle.std.specs.List.{flat_map, list_any}
use Rattle.byteorder.specs.Endian.{little_bytes}
use Rattle.ti_binary.specs.Canonical.{canonical, padding, word, words}
use Rattle.ti_binary.specs.Files.{numbers_of, numbers_place, offsets_place, part}
use Rattle.ti_binary.specs.declared.widths.Width.{Width}
use Rattle.ti_binary.specs.declared.widths.Width.TheVariants.{Legacy, Wide}
use Rattle.ti_extended.specs.Whole.{Capabilities, Whole}

-- The bytes of a number of this width, the lower first.
abbrev pub number_bytes : Width → ℕ → List ℕ
number_bytes Legacy n = word n
number_bytes Wide n = little_bytes 4 n

-- Texts, each with its NUL.
abbrev pub joined : List (List ℕ) → List ℕ
joined texts = flat_map (λ text. text ++ 0 ∷ []) texts

-- Where each of these texts begins, the first at `size`.
abbrev pub starts : ℕ → List (List ℕ) → List ℕ
starts size [] = []
starts size (text ∷ texts) = size ∷ starts (size + (length text + 1)) texts

-- How many flags there are among extended capabilities.
abbrev pub flags_among : Capabilities → ℕ
flags_among e = length e.names - length e.numbers - length e.texts

-- The five numbers of the header: how many flags, numbers and texts there are; how many items the string table has; and its
-- size.
abbrev pub header_of : Capabilities → List ℕ
header_of e =
    flags_among e ∷ length e.numbers ∷ length e.texts ∷ (length e.texts + length e.names)
    ∷ (length (joined e.texts) + length (joined e.names)) ∷ []

-- The section of extended capabilities: header, flags, the odd byte, numbers, offsets of the texts and of the names, and the
-- string table.
abbrev pub section_form : Width → Capabilities → List ℕ
section_form width e =
    words (header_of e) ++ (replicate (flags_among e) 1 ++ (padding (flags_among e) ++ (flat_map (number_bytes width) e.numbers
    ++ (words (starts 0 e.texts) ++ (words (starts 0 e.names) ++ (joined e.texts ++ joined e.names))))))

-- The section, unless there is nothing to hold.
abbrev pub section_of : Width → Capabilities → List ℕ
section_of width e = if length e.names == 0 then [] else section_form width e

-- The section behind so many bytes, at an even place.
abbrev pub aligned : ℕ → List ℕ → List ℕ
aligned size section = if length section == 0 then [] else padding size ++ section

-- A 32-bit number of a capability; the greatest one stands for an absent number.
abbrev pub wide_number : Option ℕ → ℕ
wide_number None = 4294967295
wide_number (Some n) = n

-- A file with 16-bit numbers, made one with 32-bit numbers: another magic number, and these numbers in place of its own.
abbrev pub widened : List (Option ℕ) → List ℕ → List ℕ
widened numbers bytes =
    word 542 ++ (part bytes 2 (numbers_place bytes - 2)
    ++ (flat_map (λ o. little_bytes 4 (wide_number o)) (take (numbers_of bytes) numbers) ++ drop (offsets_place Legacy bytes) bytes))

-- The number is above 32767.
abbrev pub is_great : ℕ → Bool
is_great n = nat_lt 32767 n

-- The same of a number that may be absent.
abbrev pub is_great_number : Option ℕ → Bool
is_great_number None = false
is_great_number (Some n) = is_great n

-- Some number of the entry is above 32767.
abbrev pub has_great : Whole → Bool
has_great w = list_any is_great_number w.numbers || list_any is_great w.extended.numbers

-- The width of all numbers of its file.
abbrev pub width_of : Whole → Width
width_of w = if has_great w then Wide else Legacy

-- What precedes the section of extended capabilities: the form of the entry by itself, with wide numbers if need be.
abbrev pub front_form : Whole → List ℕ
front_form w = if has_great w then widened w.numbers (canonical w.entry) else canonical w.entry

-- The form of a whole entry.
abbrev pub whole_form : Whole → List ℕ
whole_form w = front_form w ++ aligned (length (front_form w)) (section_of (width_of w) w.extended)
