-- What a compiled file says. term(5), 'Legacy Storage Format' and 'Extended Number Format'.
use Rattle.std.specs.Prelude.{ℕ, ◌≡◌, ◌+◌, ◌*◌, ◌%◌, ◌-◌, ◌≤◌, ◌==◌, ◌&&◌, ◌||◌, not, nat_lt, min, Bool, true, false, List, ◌++◌, length, map, take, drop, Option, Some, None, replicate, if◌then◌else◌}
use Rattle.std.specs.List.{list_any, before_first, range_with_len, filter}
use Rattle.std.specs.Option.{option_or}
use Rattle.byteorder.specs.Endian.{little_number}
use Rattle.ti_caps.specs.Names.{are_names}
use Rattle.ti_caps.specs.Description.{Description}
use Rattle.ti_binary.specs.Canonical.{magic}
use Rattle.ti_binary.specs.declared.widths.Width.{Width}
use Rattle.ti_binary.specs.declared.widths.Width.TheVariants.{Legacy, Wide}
use Rattle.ti_binary.specs.declared.faults.BinFault.{BinFault}
use Rattle.ti_binary.specs.declared.faults.BinFault.TheVariants.{TooLarge, Truncated, WideNumbers, BadMagic, BadCount, BadNames, BadOffset, Unended}

-- The 16-bit number at an offset, the lower byte first.
abbrev pub word_at : List ℕ → ℕ → ℕ
word_at bytes offset = little_number 2 (drop offset bytes)

-- The first `count` 16-bit numbers of a section.
abbrev pub words_in : List ℕ → ℕ → List ℕ
words_in section count = map (λ i. word_at section (2 * i)) (range_with_len 0 count)

-- 16-bit numbers are signed; a negative one says that something is absent.
abbrev pub is_negative : ℕ → Bool
is_negative word = nat_lt 32767 word

-- The magic number of a file whose numbers have this width: octal 0432 or 01036.
abbrev pub magic_of : Width → ℕ
magic_of Legacy = magic
magic_of Wide = 542

-- How many bytes so many numbers take.
abbrev pub numbers_size : Width → ℕ → ℕ
numbers_size Legacy count = 2 * count
numbers_size Wide count = 4 * count

-- The number at this index of a section, the lower bytes first.
abbrev pub nth_number : Width → List ℕ → ℕ → ℕ
nth_number Legacy section index = word_at section (2 * index)
nth_number Wide section index = little_number 4 (drop (4 * index) section)

-- The first `count` numbers of a section.
abbrev pub numbers_in : Width → List ℕ → ℕ → List ℕ
numbers_in width section count = map (λ index. nth_number width section index) (range_with_len 0 count)

-- The greatest number of this width: numbers are signed.
abbrev pub most_of : Width → ℕ
most_of Legacy = 32767
most_of Wide = 2147483647

-- The byte is NUL.
abbrev pub is_nul : ℕ → Bool
is_nul byte = byte == 0

-- What a byte says of a flag: 1 means that it is present.
abbrev pub flag_said : ℕ → Bool
flag_said byte = byte == 1

-- What a number says of a capability: that it is absent if it is negative; else its value, and 32767 for all above.
abbrev pub number_said : Width → ℕ → Option ℕ
number_said width number = if nat_lt (most_of width) number then None else Some (min number 32767)

-- The number is one above 32767 that is not negative.
abbrev pub is_clamped : Width → ℕ → Bool
is_clamped width number = not (nat_lt (most_of width) number) && nat_lt 32767 number

-- How many of the first `count` numbers of a section are.
abbrev pub clamped_count : Width → List ℕ → ℕ → ℕ
clamped_count width section count = length (filter (is_clamped width) (numbers_in width section count))

-- The text at an offset of the string table, up to the next NUL; none if the offset is negative.
abbrev pub text_said : List ℕ → ℕ → Option (List ℕ)
text_said table offset = if is_negative offset then None else Some (before_first is_nul (drop offset table))

-- The offset is not negative but lies beyond the table.
abbrev pub is_outside : List ℕ → ℕ → Bool
is_outside table offset = not (is_negative offset) && not (nat_lt offset (length table))

-- The text at this offset is not ended by a NUL in the table.
abbrev pub is_unended : List ℕ → ℕ → Bool
is_unended table offset = not (is_negative offset) && not (list_any is_nul (drop offset table))

-- What the list says of the first positions; all others are absent.
abbrev pub padded : {A : Type 0} → ℕ → A → List A → List A
padded count absent said = said ++ replicate (count - length said) absent

-- The bytes are a file of the entry, followed by `rest`: a header of six numbers, and sections of the sizes it gives,
-- within the limits, which hold what the entry has. The width is that of the numbers in the section of numbers.
pub record IsFile (width : Width) (bytes : List ℕ) (entry : Description) (rest : List ℕ) : Type 0 where
  pub header : List ℕ
  pub names : List ℕ
  pub flags : List ℕ
  pub odd : List ℕ
  pub numbers : List ℕ
  pub offsets : List ℕ
  pub table : List ℕ
  pub whole : bytes ≡ header ++ (names ++ (flags ++ (odd ++ (numbers ++ (offsets ++ (table ++ rest))))))
  pub short : length bytes ≤ 32768
  pub header_size : length header ≡ 12
  pub is_magic : word_at header 0 ≡ magic_of width
  pub names_size : word_at header 2 ≡ length names
  pub flag_count : word_at header 4 ≡ length flags
  pub odd_size : length odd ≡ (length names + length flags) % 2
  pub numbers_fit : length numbers ≡ numbers_size width (word_at header 6)
  pub offsets_size : length offsets ≡ 2 * word_at header 8
  pub table_size : word_at header 10 ≡ length table
  pub some_names : 1 ≤ length names
  pub names_limit : length names ≤ 32767
  pub flags_limit : length flags ≤ 64
  pub numbers_limit : word_at header 6 ≤ 64
  pub offsets_limit : word_at header 8 ≤ 512
  pub table_limit : length table ≤ 32767
  pub names_end : list_any is_nul names ≡ true
  pub names_say : entry.names ≡ before_first is_nul names
  pub named : are_names entry.names ≡ true
  pub flags_say : entry.flags ≡ padded 64 false (map flag_said flags)
  pub numbers_say : entry.numbers ≡ padded 64 None (map (number_said width) (numbers_in width numbers (word_at header 6)))
  pub offsets_inside : list_any (is_outside table) (words_in offsets (word_at header 8)) ≡ false
  pub texts_end : list_any (is_unended table) (words_in offsets (word_at header 8)) ≡ false
  pub texts_say : entry.texts ≡ padded 512 None (map (text_said table) (words_in offsets (word_at header 8)))

-- The bytes are a file of the entry, followed by `count` bytes.
abbrev pub Reads : Width → List ℕ → Description → ℕ → Type 0
Reads width bytes entry count = (rest : List ℕ) × IsFile width bytes entry rest × (count ≡ length rest)

-- The size of the names that the header gives.
abbrev pub names_of : List ℕ → ℕ
names_of bytes = word_at bytes 2

-- The number of flags that it gives.
abbrev pub flags_of : List ℕ → ℕ
flags_of bytes = word_at bytes 4

-- The number of numbers that it gives.
abbrev pub numbers_of : List ℕ → ℕ
numbers_of bytes = word_at bytes 6

-- The number of offsets that it gives.
abbrev pub offsets_of : List ℕ → ℕ
offsets_of bytes = word_at bytes 8

-- The size of the string table that it gives.
abbrev pub table_of : List ℕ → ℕ
table_of bytes = word_at bytes 10

-- Where the flags begin.
abbrev pub flags_place : List ℕ → ℕ
flags_place bytes = 12 + names_of bytes

-- Where the numbers begin.
abbrev pub numbers_place : List ℕ → ℕ
numbers_place bytes = flags_place bytes + flags_of bytes + (names_of bytes + flags_of bytes) % 2

-- Where the offsets begin.
abbrev pub offsets_place : Width → List ℕ → ℕ
offsets_place width bytes = numbers_place bytes + numbers_size width (numbers_of bytes)

-- Where the string table begins.
abbrev pub table_place : Width → List ℕ → ℕ
table_place width bytes = offsets_place width bytes + 2 * offsets_of bytes

-- Where the string table ends.
abbrev pub end_place : Width → List ℕ → ℕ
end_place width bytes = table_place width bytes + table_of bytes

-- `size` bytes from an offset on.
abbrev pub part : List ℕ → ℕ → ℕ → List ℕ
part bytes offset size = take size (drop offset bytes)

-- How many numbers of a file are above 32767.
abbrev pub clamped_of : Width → List ℕ → ℕ
clamped_of width bytes =
    clamped_count width (part bytes (numbers_place bytes) (numbers_size width (numbers_of bytes))) (numbers_of bytes)

-- A size or count in the header is negative or beyond its limit, or the names have no size.
abbrev pub has_bad_count : List ℕ → Bool
has_bad_count bytes =
    names_of bytes == 0 || is_negative (names_of bytes) || nat_lt 64 (flags_of bytes) || nat_lt 64 (numbers_of bytes)
    || nat_lt 512 (offsets_of bytes) || is_negative (table_of bytes)

-- The names have no NUL, or are not what an entry can have.
abbrev pub has_bad_names : List ℕ → Bool
has_bad_names section = not (list_any is_nul section && are_names (before_first is_nul section))

-- The error of a file with another magic number. Where 16-bit numbers are read, that of 32-bit numbers has its own.
abbrev pub wrong_magic : Width → ℕ → BinFault
wrong_magic Legacy found = if found == 542 then WideNumbers else BadMagic
wrong_magic Wide found = BadMagic

-- Why bytes are not a file, by their size and the magic number.
abbrev pub header_refusal : Width → List ℕ → Option BinFault
header_refusal width bytes =
    if nat_lt 32768 (length bytes) then Some TooLarge else
    (if nat_lt (length bytes) 2 then Some Truncated else
    (if not (word_at bytes 0 == magic_of width) then Some (wrong_magic width (word_at bytes 0)) else
    (if nat_lt (length bytes) 12 then Some Truncated else None)))

-- Why they are none, by the numbers of the header and the room for the sections.
abbrev pub room_refusal : Width → List ℕ → Option BinFault
room_refusal width bytes =
    if has_bad_count bytes then Some BadCount else
    (if nat_lt (length bytes) (end_place width bytes) then Some Truncated else None)

-- Why they are none, by the offsets of the texts.
abbrev pub offsets_refusal : List ℕ → List ℕ → Option BinFault
offsets_refusal table offsets =
    if list_any (is_outside table) offsets then Some BadOffset else
    (if list_any (is_unended table) offsets then Some Unended else None)

-- Why they are none, by the contents of the sections.
abbrev pub sections_refusal : List ℕ → List ℕ → List ℕ → Option BinFault
sections_refusal names table offsets =
    if has_bad_names names then Some BadNames else offsets_refusal table offsets

-- The first of these reasons that applies, in this order, if any.
abbrev pub refusal : Width → List ℕ → Option BinFault
refusal width bytes =
    option_or (header_refusal width bytes) (option_or (room_refusal width bytes)
    (sections_refusal (part bytes 12 (names_of bytes)) (part bytes (table_place width bytes) (table_of bytes))
    (words_in (part bytes (offsets_place width bytes) (2 * offsets_of bytes)) (offsets_of bytes))))
