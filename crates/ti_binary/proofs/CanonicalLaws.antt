-- How long a compiled file is.
use Rattle.std.proofs.Common.{◌≡◌, ℕ, ◌+◌, ◌*◌, ◌%◌, ◌≤◌, ◌&&◌, nat_le, Bool, true, false, refl, sym, ◌∙◌, ap, arith, List, [], ◌∷◌, ◌++◌, length, length-append, map, min, nat_lt, Option}
use Rattle.std.proofs.Math.ListN.{length-replicate}
use Rattle.std.proofs.lemmas.List.{length-map, length-take-le}
use Rattle.std.proofs.lemmas.Bool.Decides.{nat_tests}
use Rattle.std.proofs.lemmas.Bool.{false≢true}
use Rattle.ti_caps.specs.Description.{Description, IsDescription}
use Rattle.ti_caps.specs.Names.{are_names}
use Rattle.ti_binary.specs.Canonical.{canonical, flag_byte, header_of, kept_flags, kept_numbers, kept_texts, number_word, offsets_from, ended, padding, renamed, table_of, words}
use Rattle.ti_binary.specs.Shapes.{IsShape}
use Rattle.ti_binary.specs.declared.shapes.Shape.{Shape}

pub words_length : (ns : List ℕ) → length (words ns) ≡ 2 * length ns
words_length [] = refl
words_length (n ∷ ns) = omega (arith, words_length ns)

pub offsets_length : (size : ℕ) (texts : List (Option (List ℕ))) → length (offsets_from size texts) ≡ length texts
offsets_length size [] = refl
offsets_length size (text ∷ texts) = omega (arith, offsets_length (size + length (ended text)) texts)

section_lengths : (header names flags pad numbers offsets table : List ℕ)
    → length (header ++ names ++ 0 ∷ flags ++ pad ++ numbers ++ offsets ++ table)
    ≡ length header + length names + 1 + length flags + length pad + length numbers + length offsets + length table
section_lengths header names flags pad numbers offsets table =
    omega (
      arith,
      length-append (header ++ names ++ 0 ∷ flags ++ pad ++ numbers ++ offsets) table,
      length-append (header ++ names ++ 0 ∷ flags ++ pad ++ numbers) offsets,
      length-append (header ++ names ++ 0 ∷ flags ++ pad) numbers,
      length-append (header ++ names ++ 0 ∷ flags) pad,
      length-append (header ++ names) (0 ∷ flags),
      length-append header names,
    )

in_all : (names flags numbers texts table f p n o : ℕ) → f ≡ flags → p ≡ (names + 1 + flags) % 2 → n ≡ 2 * numbers → o ≡ 2 * texts
    → 12 + names + 1 + f + p + n + o + table ≡ 12 + (names + 1) + flags + (names + 1 + flags) % 2 + 2 * numbers + 2 * texts + table
in_all names flags numbers texts table f p n o a b c d = omega arith

-- six numbers, the names and their NUL, the flags, the odd byte, two bytes a number and an offset, and the table
pub canonical_length : (entry : Description) → length (canonical entry)
    ≡ 12 + (length entry.names + 1) + length (kept_flags entry) + (length entry.names + 1 + length (kept_flags entry)) % 2
    + 2 * length (kept_numbers entry) + 2 * length (kept_texts entry) + length (table_of (kept_texts entry))
canonical_length entry =
    let flags : List ℕ = map flag_byte (kept_flags entry) in
    let pad : List ℕ = padding (length entry.names + 1 + length (kept_flags entry)) in
    let numbers : List ℕ = words (map number_word (kept_numbers entry)) in
    let offsets : List ℕ = words (offsets_from 0 (kept_texts entry)) in
    section_lengths (words (header_of entry)) entry.names flags pad numbers offsets (table_of (kept_texts entry))
    ∙ in_all (length entry.names) (length (kept_flags entry)) (length (kept_numbers entry)) (length (kept_texts entry)) (length (table_of (kept_texts entry)))
    (length flags) (length pad) (length numbers) (length offsets)
    (length-map (kept_flags entry) flag_byte)
    (length-replicate {A = ℕ} ((length entry.names + 1 + length (kept_flags entry)) % 2) 0)
    (omega (arith, words_length (map number_word (kept_numbers entry)), length-map (kept_numbers entry) number_word))
    (omega (arith, words_length (offsets_from 0 (kept_texts entry)), offsets_length 0 (kept_texts entry)))

-- with a table that is counted up to 4,097 bytes
same_test : (size whole table rest : ℕ) → size ≡ rest + min table 4097 → whole ≡ rest + table → nat_lt 4096 size ≡ nat_lt 4096 whole
same_test size whole table rest a b = grind (arith, nat_tests)

pub too_large : (entry : Description) (shape : Shape) (size : ℕ) → IsDescription entry → IsShape entry shape
    → size ≡ 12 + shape.names + shape.flags + (shape.names + shape.flags) % 2 + 2 * shape.numbers + 2 * shape.texts + shape.table
    → nat_lt 4096 size ≡ nat_lt 4096 (length (canonical entry))
too_large entry shape size d s e =
    let flags : length (kept_flags entry) ≡ shape.flags = ap length (sym s.flags) ∙ length-take-le shape.flags entry.flags (omega (arith, d.flags, s.few_flags)) in
    let numbers : length (kept_numbers entry) ≡ shape.numbers = ap length (sym s.numbers) ∙ length-take-le shape.numbers entry.numbers (omega (arith, d.numbers, s.few_numbers)) in
    let texts : length (kept_texts entry) ≡ shape.texts = ap length (sym s.texts) ∙ length-take-le shape.texts entry.texts (omega (arith, d.texts, s.few_texts)) in
    let odd : (length entry.names + 1 + length (kept_flags entry)) % 2 ≡ (shape.names + shape.flags) % 2 = λ i. (sym s.names i + flags i) % 2 in
    same_test size (length (canonical entry)) (length (table_of (kept_texts entry))) (12 + shape.names + shape.flags + (shape.names + shape.flags) % 2 + 2 * shape.numbers + 2 * shape.texts)
    (omega (arith, e, s.table)) (omega (arith, canonical_length entry, flags, numbers, texts, odd, s.names))

-- an entry with other names that are good is an entry
pub renamed-described : (d : Description) (names : List ℕ) → IsDescription d → are_names names ≡ true → IsDescription (renamed d names)
renamed-described d names is named = record { named = named; flags = is.flags; numbers = is.numbers; texts = is.texts; small = is.small; whole = is.whole; bytes = is.bytes }

pub and_parts : (a b : Bool) → (a && b) ≡ true → (a ≡ true) × (b ≡ true)
and_parts true b h = (refl, h)
and_parts false b h = absurd (false≢true h)

-- names have at most 511 bytes
pub names_short : (names : List ℕ) → are_names names ≡ true → length names ≤ 511
names_short names h =
    at_most (length names) (and_parts (nat_le 1 (length names)) (nat_le (length names) 511) (and_parts (nat_le 1 (length names) && nat_le (length names) 511) _ h).0).1
  where
    at_most : (n : ℕ) → nat_le n 511 ≡ true → n ≤ 511
    at_most n e = grind (arith, nat_tests)
