-- A file with 16-bit numbers that is made one with 32-bit numbers, and bytes behind a file.
use Rattle.std.proofs.Common.{◌≡◌, ℕ, ◌+◌, ◌*◌, ◌-◌, ◌≤◌, true, refl, sym, ◌∙◌, ap, arith, List, [], ◌++◌, append_assoc, length, length-append, map, take, drop, Option, None}
use Rattle.std.specs.List.{flat_map, list_all, list_any}
use Rattle.std.proofs.lemmas.List.{drop-append-le, drop-drop, drop-take, length-drop, length-map, length-take-le}
use Rattle.std.proofs.lemmas.List.FromFn.{length-map-range_with_len}
use Rattle.byteorder.specs.Endian.{little_bytes, little_number}
use Rattle.ti_caps.specs.Description.{Description}
use Rattle.ti_binary.specs.Canonical.{word}
use Rattle.ti_binary.specs.Files.{IsFile, is_outside, is_unended, nth_number, text_said, words_in, number_said, numbers_in, numbers_of, numbers_place, numbers_size, padded, part, word_at}
use Rattle.ti_binary.specs.declared.widths.Width.{Width}
use Rattle.ti_binary.specs.declared.widths.Width.TheVariants.{Legacy, Wide}
use Rattle.ti_extended.specs.Whole.{clamped, is_small_number}
use Rattle.ti_extended.specs.Sections.{whole_said}
use Rattle.ti_extended.specs.Forms.{number_bytes, wide_number, widened}
use Rattle.ti_extended.proofs.NumberLaws.{all_fit, all_wide_said, clamped_all, numbers_back, numbers_length, padded_whole, small_taken, wide_bytes}
use Rattle.ti_extended.proofs.PlacedLaws.{Placed, file_few, file_placed}

-- bytes behind a file
pub appended : (width : Width) (bytes more : List ℕ) (entry : Description) → IsFile width bytes entry [] → length (bytes ++ more) ≤ 32768
    → IsFile width (bytes ++ more) entry more
appended width bytes more entry f short =
    let all : bytes ++ more ≡ f.header ++ (f.names ++ (f.flags ++ (f.odd ++ (f.numbers ++ (f.offsets ++ (f.table ++ more)))))) =
    ap (λ bs. bs ++ more) f.whole ∙ simp append_assoc in
    record {
      header = f.header;
      names = f.names;
      flags = f.flags;
      odd = f.odd;
      numbers = f.numbers;
      offsets = f.offsets;
      table = f.table;
      whole = all;
      short = short;
      header_size = f.header_size;
      is_magic = f.is_magic;
      names_size = f.names_size;
      flag_count = f.flag_count;
      odd_size = f.odd_size;
      numbers_fit = f.numbers_fit;
      offsets_size = f.offsets_size;
      table_size = f.table_size;
      some_names = f.some_names;
      names_limit = f.names_limit;
      flags_limit = f.flags_limit;
      numbers_limit = f.numbers_limit;
      offsets_limit = f.offsets_limit;
      table_limit = f.table_limit;
      names_end = f.names_end;
      names_say = f.names_say;
      named = f.named;
      flags_say = f.flags_say;
      numbers_say = f.numbers_say;
      offsets_inside = f.offsets_inside;
      texts_end = f.texts_end;
      texts_say = f.texts_say;
    }

-- the header with another magic number
word_kept : (header : List ℕ) (k : ℕ) → word_at (drop 2 header) k ≡ word_at header (2 + k)
word_kept header k = ap (little_number 2) (drop-drop k 2 header)

-- what precedes the numbers, with another magic number
front_of : (bytes header names flags odd : List ℕ) (n : ℕ) → 2 ≤ n → length header ≡ 12 → take n bytes ≡ header ++ (names ++ (flags ++ odd))
    → part bytes 2 (n - 2) ≡ drop 2 header ++ (names ++ (flags ++ odd))
front_of bytes header names flags odd n le size e =
    let all : 2 + (n - 2) ≡ n = omega (arith, le) in
    sym (drop-take 2 (n - 2) bytes) ∙ ap (λ k. drop 2 (take k bytes)) all ∙ ap (drop 2) e ∙ drop-append-le 2 header (names ++ (flags ++ odd)) (omega (arith, size))

regrouped : (m header names flags odd w offsets table : List ℕ)
    → m ++ ((header ++ (names ++ (flags ++ odd))) ++ (w ++ (offsets ++ (table ++ []))))
    ≡ (m ++ header) ++ (names ++ (flags ++ (odd ++ (w ++ (offsets ++ (table ++ []))))))
regrouped m header names flags odd w offsets table = simp append_assoc

-- what the numbers of a file say, by the whole numbers that are clamped to them
pub record Widened (numbers : List (Option ℕ)) (count : ℕ) (entry_numbers : List (Option ℕ)) : Type 0 where
  pub size : length (flat_map (λ o. little_bytes 4 (wide_number o)) (take count numbers)) ≡ 4 * count
  pub read : numbers_in Wide (flat_map (λ o. little_bytes 4 (wide_number o)) (take count numbers)) count ≡ map wide_number (take count numbers)
  pub whole : numbers ≡ padded 64 None (map (whole_said Wide) (map wide_number (take count numbers)))
  pub entry : entry_numbers ≡ padded 64 None (map (number_said Wide) (map wide_number (take count numbers)))

pub widened_numbers : (numbers entry_numbers said : List (Option ℕ)) (count : ℕ) → length numbers ≡ 64 → count ≤ 64 → length said ≡ count
    → entry_numbers ≡ map clamped numbers → entry_numbers ≡ padded 64 None said → list_all is_small_number numbers ≡ true
    → Widened numbers count entry_numbers
widened_numbers numbers entry_numbers said count size le len clamps says small =
    let taken : List (Option ℕ) = take count numbers in
    let words : List ℕ = map wide_number taken in
    let long : length words ≡ count = length-map taken wide_number ∙ length-take-le count numbers (omega (arith, size, le)) in
    let few : list_all is_small_number taken ≡ true = small_taken count numbers small in
    let parts = padded_whole numbers said count size le len (sym clamps ∙ says) in
    let bytes : flat_map (λ o. little_bytes 4 (wide_number o)) taken ≡ flat_map (number_bytes Wide) words = wide_bytes taken in
    let back : map (whole_said Wide) words ≡ taken = all_wide_said taken few in
    record {
      size = ap length bytes ∙ numbers_length Wide words ∙ ap (λ n. 4 * n) long;
      read = (λ i. numbers_in Wide (bytes i) (sym long i)) ∙ numbers_back Wide words (all_fit taken few);
      whole = parts.1 ∙ ap (padded 64 None) (sym back);
      entry = says ∙ ap (padded 64 None) (sym parts.0 ∙ ap (map clamped) (sym back) ∙ clamped_all Wide words);
    }

pub widened_file : (bytes : List ℕ) (entry : Description) (numbers : List (Option ℕ)) → IsFile Legacy bytes entry [] → length bytes ≤ 4096 → length numbers ≡ 64
    → entry.numbers ≡ map clamped numbers → list_all is_small_number numbers ≡ true
    → IsFile Wide (widened numbers bytes) entry []
    × (numbers ≡ padded 64 None (map (whole_said Wide) (numbers_in Wide (part (widened numbers bytes) (numbers_place (widened numbers bytes)) (numbers_size Wide (numbers_of (widened numbers bytes)))) (numbers_of (widened numbers bytes)))))
    × (length (widened numbers bytes) ≤ 4352)
widened_file bytes entry numbers f short size clamps small =
    let p : Placed Legacy bytes f.header f.names f.flags f.odd f.numbers (f.offsets ++ (f.table ++ [])) = file_placed Legacy bytes [] entry f in
    let count : ℕ = numbers_of bytes in
    let counts : numbers_of bytes ≡ word_at f.header 6 = p.word 6 (omega arith) in
    let few : numbers_of bytes ≤ 64 = file_few Legacy bytes [] entry f in
    let said : List (Option ℕ) = map (number_said Legacy) (numbers_in Legacy f.numbers (word_at f.header 6)) in
    let said_size : length said ≡ numbers_of bytes = said_length Legacy f.numbers (word_at f.header 6) ∙ sym counts in
    let w : Widened numbers (numbers_of bytes) entry.numbers = widened_numbers numbers entry.numbers said (numbers_of bytes) size few said_size clamps f.numbers_say small in
    let wide : List ℕ = flat_map (λ o. little_bytes 4 (wide_number o)) (take (numbers_of bytes) numbers) in
    let header : List ℕ = word 542 ++ drop 2 f.header in
    let place : 2 ≤ numbers_place bytes = omega (arith, p.place) in
    let front = front_of bytes f.header f.names f.flags f.odd (numbers_place bytes) place f.header_size p.front in
    let whole : widened numbers bytes ≡ header ++ (f.names ++ (f.flags ++ (f.odd ++ (wide ++ (f.offsets ++ (f.table ++ [])))))) =
    (λ i. word 542 ++ (front i ++ (wide ++ p.behind i))) ∙ regrouped (word 542) (drop 2 f.header) f.names f.flags f.odd wide f.offsets f.table in
    let header_size : length header ≡ 12 = omega (arith, length-append (word 542) (drop 2 f.header), length-drop 2 f.header, f.header_size) in
    let at2 : word_at header 2 ≡ word_at f.header 2 = word_kept f.header 0 in
    let at4 : word_at header 4 ≡ word_at f.header 4 = word_kept f.header 2 in
    let at6 : word_at header 6 ≡ word_at f.header 6 = word_kept f.header 4 in
    let at8 : word_at header 8 ≡ word_at f.header 8 = word_kept f.header 6 in
    let at10 : word_at header 10 ≡ word_at f.header 10 = word_kept f.header 8 in
    let at_count : word_at header 6 ≡ numbers_of bytes = at6 ∙ sym counts in
    let fit : length wide ≡ 4 * word_at header 6 = w.size ∙ ap (λ n. 4 * n) (sym at_count) in
    let read : numbers_in Wide wide (word_at header 6) ≡ map wide_number (take (numbers_of bytes) numbers) = ap (numbers_in Wide wide) at_count ∙ w.read in
    let long : length (widened numbers bytes) ≤ 4352 = too_long bytes f.header f.names f.flags f.odd f.numbers f.offsets f.table wide header (widened numbers bytes) (numbers_of bytes) f.whole whole f.header_size header_size w.size few short in
    let file : IsFile Wide (widened numbers bytes) entry [] = record {
      header = header;
      names = f.names;
      flags = f.flags;
      odd = f.odd;
      numbers = wide;
      offsets = f.offsets;
      table = f.table;
      whole = whole;
      short = omega (arith, long);
      header_size = header_size;
      is_magic = refl;
      names_size = at2 ∙ f.names_size;
      flag_count = at4 ∙ f.flag_count;
      odd_size = f.odd_size;
      numbers_fit = fit;
      offsets_size = f.offsets_size ∙ ap (λ n. 2 * n) (sym at8);
      table_size = at10 ∙ f.table_size;
      some_names = f.some_names;
      names_limit = f.names_limit;
      flags_limit = f.flags_limit;
      numbers_limit = omega (arith, at6, f.numbers_limit);
      offsets_limit = omega (arith, at8, f.offsets_limit);
      table_limit = f.table_limit;
      names_end = f.names_end;
      names_say = f.names_say;
      named = f.named;
      flags_say = f.flags_say;
      numbers_say = w.entry ∙ ap (λ ns. padded 64 None (map (number_said Wide) ns)) (sym read);
      offsets_inside = (λ i. list_any (is_outside f.table) (words_in f.offsets (at8 i))) ∙ f.offsets_inside;
      texts_end = (λ i. list_any (is_unended f.table) (words_in f.offsets (at8 i))) ∙ f.texts_end;
      texts_say = f.texts_say ∙ (λ i. padded 512 None (map (text_said f.table) (words_in f.offsets (sym at8 i))));
    } in
    let q : Placed Wide (widened numbers bytes) header f.names f.flags f.odd wide (f.offsets ++ (f.table ++ [])) = file_placed Wide (widened numbers bytes) [] entry file in
    let counted : numbers_of (widened numbers bytes) ≡ word_at header 6 = q.word 6 (omega arith) in
    let whole_numbers : numbers ≡ padded 64 None (map (whole_said Wide) (numbers_in Wide wide (word_at header 6))) = w.whole ∙ ap (λ ns. padded 64 None (map (whole_said Wide) ns)) (sym read) in (
      file,
      whole_numbers ∙ (λ i. padded 64 None (map (whole_said Wide) (numbers_in Wide (sym q.numbers_are i) (sym counted i)))),
      long,
    )
  where
    said_length : (width : Width) (section : List ℕ) (n : ℕ) → length (map (number_said width) (numbers_in width section n)) ≡ n
    said_length width section n = length-map (numbers_in width section n) (number_said width) ∙ length-map-range_with_len (λ i. nth_number width section i) 0 n

    too_long : (bytes header names flags odd numbers offsets table wide other out : List ℕ) (count : ℕ)
        → bytes ≡ header ++ (names ++ (flags ++ (odd ++ (numbers ++ (offsets ++ (table ++ []))))))
        → out ≡ other ++ (names ++ (flags ++ (odd ++ (wide ++ (offsets ++ (table ++ []))))))
        → length header ≡ 12 → length other ≡ 12 → length wide ≡ 4 * count → count ≤ 64 → length bytes ≤ 4096 → length out ≤ 4352
    too_long bytes header names flags odd numbers offsets table wide other out count e o h k w few short =
        let rest : List ℕ = offsets ++ (table ++ []) in
        let a : length bytes ≡ length header + (length names + (length flags + (length odd + (length numbers + length rest)))) =
        ap length e ∙ length-append header _ ∙ ap (λ n. length header + n) (length-append names _ ∙ ap (λ n. length names + n) (length-append flags _ ∙ ap (λ n. length flags + n) (length-append odd _ ∙ ap (λ n. length odd + n) (length-append numbers rest)))) in
        let b : length out ≡ length other + (length names + (length flags + (length odd + (length wide + length rest)))) =
        ap length o ∙ length-append other _ ∙ ap (λ n. length other + n) (length-append names _ ∙ ap (λ n. length names + n) (length-append flags _ ∙ ap (λ n. length flags + n) (length-append odd _ ∙ ap (λ n. length odd + n) (length-append wide rest)))) in
        omega (arith, a, b)
