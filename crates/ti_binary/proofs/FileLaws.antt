-- Bytes whose sections have room are their sections, one after another.
use Rattle.std.proofs.Common.{◌≡◌, ℕ, ◌+◌, ◌*◌, ◌%◌, ◌≤◌, ◌-◌, ◌==◌, ◌||◌, ◌&&◌, not, nat_lt, cond, Bool, false, true, refl, sym, ◌∙◌, ap, arith, List, ◌++◌, length, length-append, map, take, drop, Some, None}
use Rattle.std.specs.List.{list_any, before_first}
use Rattle.std.proofs.lemmas.List.{take-append-drop, length-take-le, length-drop, drop-drop, drop-take, drop_at, take_at, get_or-take}
use Rattle.byteorder.specs.Endian.{little_number}
use Rattle.ti_caps.specs.Names.{are_names}
use Rattle.ti_caps.specs.Description.{Description}
use Rattle.ti_binary.specs.Files.{IsFile, magic_of, numbers_in, numbers_size, word_at, words_in, wrong_magic, part, padded, flag_said, number_said, text_said, is_nul, is_outside, is_unended, names_of, flags_of, numbers_of, offsets_of, table_of, flags_place, numbers_place, offsets_place, table_place, end_place, header_refusal, room_refusal, sections_refusal}
use Rattle.ti_binary.specs.declared.widths.Width.{Width}
use Rattle.ti_binary.specs.declared.faults.BinFault.{BinFault}
use Rattle.ti_binary.specs.declared.faults.BinFault.TheVariants.{TooLarge, Truncated, BadCount, BadNames, BadOffset, Unended}
use Rattle.std.specs.Option.{option_or}
use Rattle.std.proofs.lemmas.Bool.Decides.{nat_tests}
use Rattle.ti_binary.specs.FileLaws.{FilesAreNotRefused, FilesHaveOneEntry}
use Rattle.ti_binary.specs.Shapes.{HasRoom}

part_next : (bytes : List ℕ) (offset size next : ℕ) → offset + size ≡ next → drop offset bytes ≡ part bytes offset size ++ drop next bytes
part_next bytes offset size next e =
    sym (take-append-drop size (drop offset bytes))
    ∙ ap (λ back. part bytes offset size ++ back) (drop-drop size offset bytes ∙ ap (λ n. drop n bytes) e)

part_length : (bytes : List ℕ) (offset size : ℕ) → offset + size ≤ length bytes → length (part bytes offset size) ≡ size
part_length bytes offset size le = length-take-le size (drop offset bytes) (omega (arith, length-drop offset bytes))

word_in_header : (bytes : List ℕ) (offset : ℕ) → offset + 2 ≤ 12 → word_at (take 12 bytes) offset ≡ word_at bytes offset
word_in_header bytes offset le =
    let left : ℕ = 12 - offset in
    let size : 12 ≡ offset + (12 - offset) = omega arith in
    let front : drop offset (take 12 bytes) ≡ take (12 - offset) (drop offset bytes) = ap (λ n. drop offset (take n bytes)) size ∙ drop-take offset (12 - offset) bytes in
    let low = get_or-take (12 - offset) (drop offset bytes) 0 0 (omega arith) in
    let high = get_or-take (12 - offset) (drop offset bytes) 1 0 (omega arith) in
    ap (little_number 2) front ∙ (λ i. low i + 256 * (high i + 256 * 0))

-- the sections, one after another
whole_is : (width : Width) (bytes : List ℕ) → bytes
    ≡ take 12 bytes ++ (part bytes 12 (names_of bytes) ++ (part bytes (flags_place bytes) (flags_of bytes)
    ++ (part bytes (flags_place bytes + flags_of bytes) ((names_of bytes + flags_of bytes) % 2)
    ++ (part bytes (numbers_place bytes) (numbers_size width (numbers_of bytes)) ++ (part bytes (offsets_place width bytes) (2 * offsets_of bytes)
    ++ (part bytes (table_place width bytes) (table_of bytes) ++ drop (end_place width bytes) bytes))))))
whole_is width bytes =
    let header : List ℕ = take 12 bytes in
    let names : List ℕ = part bytes 12 (names_of bytes) in
    let flags : List ℕ = part bytes (flags_place bytes) (flags_of bytes) in
    let odd : List ℕ = part bytes (flags_place bytes + flags_of bytes) ((names_of bytes + flags_of bytes) % 2) in
    let numbers : List ℕ = part bytes (numbers_place bytes) (numbers_size width (numbers_of bytes)) in
    let offsets : List ℕ = part bytes (offsets_place width bytes) (2 * offsets_of bytes) in
    sym (take-append-drop 12 bytes)
    ∙ ap (λ back. header ++ back) (part_next bytes 12 (names_of bytes) (flags_place bytes) refl
    ∙ ap (λ back. names ++ back) (part_next bytes (flags_place bytes) (flags_of bytes) (flags_place bytes + flags_of bytes) refl
    ∙ ap (λ back. flags ++ back) (part_next bytes (flags_place bytes + flags_of bytes) ((names_of bytes + flags_of bytes) % 2) (numbers_place bytes) refl
    ∙ ap (λ back. odd ++ back) (part_next bytes (numbers_place bytes) (numbers_size width (numbers_of bytes)) (offsets_place width bytes) refl
    ∙ ap (λ back. numbers ++ back) (part_next bytes (offsets_place width bytes) (2 * offsets_of bytes) (table_place width bytes) refl
    ∙ ap (λ back. offsets ++ back) (part_next bytes (table_place width bytes) (table_of bytes) (end_place width bytes) refl))))))

-- what is known of bytes that were read
pub record WereRead (width : Width) (bytes : List ℕ) (entry : Description) : Type 0 where
  pub header : 12 ≤ length bytes
  pub short : length bytes ≤ 32768
  pub is_magic : word_at bytes 0 ≡ magic_of width
  pub fits : HasRoom width bytes
  pub names_end : list_any is_nul (part bytes 12 (names_of bytes)) ≡ true
  pub names_say : entry.names ≡ before_first is_nul (part bytes 12 (names_of bytes))
  pub named : are_names entry.names ≡ true
  pub flags_say : entry.flags ≡ padded 64 false (map flag_said (part bytes (flags_place bytes) (flags_of bytes)))
  pub numbers_say : entry.numbers ≡ padded 64 None (map (number_said width) (numbers_in width (part bytes (numbers_place bytes) (numbers_size width (numbers_of bytes))) (numbers_of bytes)))
  pub inside : list_any (is_outside (part bytes (table_place width bytes) (table_of bytes))) (words_in (part bytes (offsets_place width bytes) (2 * offsets_of bytes)) (offsets_of bytes)) ≡ false
  pub texts_end : list_any (is_unended (part bytes (table_place width bytes) (table_of bytes))) (words_in (part bytes (offsets_place width bytes) (2 * offsets_of bytes)) (offsets_of bytes)) ≡ false
  pub texts_say : entry.texts ≡ padded 512 None (map (text_said (part bytes (table_place width bytes) (table_of bytes))) (words_in (part bytes (offsets_place width bytes) (2 * offsets_of bytes)) (offsets_of bytes)))

pub were_read : (width : Width) (bytes : List ℕ) (entry : Description) → WereRead width bytes entry → IsFile width bytes entry (drop (end_place width bytes) bytes)
were_read width bytes entry r =
    let table : List ℕ = part bytes (table_place width bytes) (table_of bytes) in
    let offsets : List ℕ = part bytes (offsets_place width bytes) (2 * offsets_of bytes) in
    let numbers : List ℕ = part bytes (numbers_place bytes) (numbers_size width (numbers_of bytes)) in
    let names : length (part bytes 12 (names_of bytes)) ≡ names_of bytes = part_length bytes 12 (names_of bytes) (omega (arith, r.fits.room)) in
    let flags : length (part bytes (flags_place bytes) (flags_of bytes)) ≡ flags_of bytes = part_length bytes (flags_place bytes) (flags_of bytes) (omega (arith, r.fits.room)) in
    let size : length table ≡ table_of bytes = part_length bytes (table_place width bytes) (table_of bytes) r.fits.room in
    let at2 : word_at (take 12 bytes) 2 ≡ names_of bytes = word_in_header bytes 2 (omega arith) in
    let at4 : word_at (take 12 bytes) 4 ≡ flags_of bytes = word_in_header bytes 4 (omega arith) in
    let at6 : word_at (take 12 bytes) 6 ≡ numbers_of bytes = word_in_header bytes 6 (omega arith) in
    let at8 : word_at (take 12 bytes) 8 ≡ offsets_of bytes = word_in_header bytes 8 (omega arith) in
    let at10 : word_at (take 12 bytes) 10 ≡ table_of bytes = word_in_header bytes 10 (omega arith) in
    record {
      header = take 12 bytes;
      names = part bytes 12 (names_of bytes);
      flags = part bytes (flags_place bytes) (flags_of bytes);
      odd = part bytes (flags_place bytes + flags_of bytes) ((names_of bytes + flags_of bytes) % 2);
      numbers = numbers;
      offsets = offsets;
      table = table;
      whole = whole_is width bytes;
      short = r.short;
      header_size = length-take-le 12 bytes r.header;
      is_magic = word_in_header bytes 0 (omega arith) ∙ r.is_magic;
      names_size = at2 ∙ sym names;
      flag_count = at4 ∙ sym flags;
      odd_size = part_length bytes (flags_place bytes + flags_of bytes) ((names_of bytes + flags_of bytes) % 2) (omega (arith, r.fits.room)) ∙ (λ i. (sym names i + sym flags i) % 2);
      numbers_fit = part_length bytes (numbers_place bytes) (numbers_size width (numbers_of bytes)) (omega (arith, r.fits.room)) ∙ ap (numbers_size width) (sym at6);
      offsets_size = part_length bytes (offsets_place width bytes) (2 * offsets_of bytes) (omega (arith, r.fits.room)) ∙ ap (λ n. 2 * n) (sym at8);
      table_size = at10 ∙ sym size;
      some_names = omega (arith, names, r.fits.some_names);
      names_limit = omega (arith, names, r.fits.names);
      flags_limit = omega (arith, flags, r.fits.flags);
      numbers_limit = omega (arith, at6, r.fits.numbers);
      offsets_limit = omega (arith, at8, r.fits.offsets);
      table_limit = omega (arith, size, r.fits.table);
      names_end = r.names_end;
      names_say = r.names_say;
      named = r.named;
      flags_say = r.flags_say;
      numbers_say = r.numbers_say ∙ ap (λ n. padded 64 None (map (number_said width) (numbers_in width numbers n))) (sym at6);
      offsets_inside = ap (λ n. list_any (is_outside table) (words_in offsets n)) at8 ∙ r.inside;
      texts_end = ap (λ n. list_any (is_unended table) (words_in offsets n)) at8 ∙ r.texts_end;
      texts_say = r.texts_say ∙ ap (λ n. padded 512 None (map (text_said table) (words_in offsets n))) (sym at8);
    }

-- ---- the other way: bytes that are a file have these sections by position

step : (bytes front back : List ℕ) (offset size next : ℕ) → drop offset bytes ≡ front ++ back → length front ≡ size → offset + size ≡ next
    → (part bytes offset size ≡ front) × (drop next bytes ≡ back)
step bytes front back offset size next e len n = (
  ap (take size) e ∙ take_at front back size len,
  ap (λ k. drop k bytes) (sym n) ∙ sym (drop-drop size offset bytes) ∙ ap (drop size) e ∙ drop_at front back size len,
)

-- what is known of a file, and what follows it
pub record WasFile (width : Width) (bytes : List ℕ) (entry : Description) (rest : List ℕ) : Type 0 where
  pub read : WereRead width bytes entry
  pub after : drop (end_place width bytes) bytes ≡ rest

pub was_file : (width : Width) (bytes rest : List ℕ) (entry : Description) → IsFile width bytes entry rest → WasFile width bytes entry rest
was_file width bytes rest entry f =
    let after_offsets : List ℕ = f.table ++ rest in
    let after_numbers : List ℕ = f.offsets ++ after_offsets in
    let after_odd : List ℕ = f.numbers ++ after_numbers in
    let after_flags : List ℕ = f.odd ++ after_odd in
    let after_names : List ℕ = f.flags ++ after_flags in
    let after_header : List ℕ = f.names ++ after_names in
    let header : take 12 bytes ≡ f.header = ap (take 12) f.whole ∙ take_at f.header after_header 12 f.header_size in
    let s0 : drop 12 bytes ≡ after_header = ap (drop 12) f.whole ∙ drop_at f.header after_header 12 f.header_size in
    let at : (offset : ℕ) → offset + 2 ≤ 12 → word_at bytes offset ≡ word_at f.header offset = λ offset le. sym (word_in_header bytes offset le) ∙ ap (λ h. word_at h offset) header in
    let names : names_of bytes ≡ length f.names = at 2 (omega arith) ∙ f.names_size in
    let flags : flags_of bytes ≡ length f.flags = at 4 (omega arith) ∙ f.flag_count in
    let numbers : numbers_of bytes ≡ word_at f.header 6 = at 6 (omega arith) in
    let offsets : offsets_of bytes ≡ word_at f.header 8 = at 8 (omega arith) in
    let table : table_of bytes ≡ length f.table = at 10 (omega arith) ∙ f.table_size in
    let odd : length f.odd ≡ (names_of bytes + flags_of bytes) % 2 = f.odd_size ∙ (λ i. (sym names i + sym flags i) % 2) in
    let s1 = step bytes f.names after_names 12 (names_of bytes) (flags_place bytes) s0 (sym names) refl in
    let s2 = step bytes f.flags after_flags (flags_place bytes) (flags_of bytes) (flags_place bytes + flags_of bytes) s1.1 (sym flags) refl in
    let s3 = step bytes f.odd after_odd (flags_place bytes + flags_of bytes) ((names_of bytes + flags_of bytes) % 2) (numbers_place bytes) s2.1 odd refl in
    let s4 = step bytes f.numbers after_numbers (numbers_place bytes) (numbers_size width (numbers_of bytes)) (offsets_place width bytes) s3.1 (f.numbers_fit ∙ ap (numbers_size width) (sym numbers)) refl in
    let s5 = step bytes f.offsets after_offsets (offsets_place width bytes) (2 * offsets_of bytes) (table_place width bytes) s4.1 (f.offsets_size ∙ ap (λ n. 2 * n) (sym offsets)) refl in
    let s6 = step bytes f.table rest (table_place width bytes) (table_of bytes) (end_place width bytes) s5.1 (sym table) refl in
    let size : length bytes ≡ 12 + length after_header = ap length f.whole ∙ length-append f.header after_header ∙ ap (λ n. n + length after_header) f.header_size in
    let room : end_place width bytes ≤ length bytes =
    omega (
      arith,
      size,
      length-append f.names after_names,
      length-append f.flags after_flags,
      length-append f.odd after_odd,
      length-append f.numbers after_numbers,
      length-append f.offsets after_offsets,
      length-append f.table rest,
      names,
      flags,
      odd,
      numbers,
      offsets,
      table,
      f.numbers_fit,
      ap (numbers_size width) numbers,
      f.offsets_size,
    ) in
    record {
      read = record {
        header = omega (arith, size);
        short = f.short;
        is_magic = at 0 (omega arith) ∙ f.is_magic;
        fits = record {
          some_names = omega (arith, names, f.some_names);
          names = omega (arith, names, f.names_limit);
          flags = omega (arith, flags, f.flags_limit);
          numbers = omega (arith, numbers, f.numbers_limit);
          offsets = omega (arith, offsets, f.offsets_limit);
          table = omega (arith, table, f.table_limit);
          room = room;
        };
        names_end = ap (list_any is_nul) s1.0 ∙ f.names_end;
        names_say = f.names_say ∙ ap (before_first is_nul) (sym s1.0);
        named = f.named;
        flags_say = f.flags_say ∙ ap (λ (section : List ℕ). padded 64 false (map flag_said section)) (sym s2.0);
        numbers_say = f.numbers_say ∙ (λ i. padded 64 None (map (number_said width) (numbers_in width (sym s4.0 i) (sym numbers i))));
        inside = (λ i. list_any (is_outside (s6.0 i)) (words_in (s5.0 i) (offsets i))) ∙ f.offsets_inside;
        texts_end = (λ i. list_any (is_unended (s6.0 i)) (words_in (s5.0 i) (offsets i))) ∙ f.texts_end;
        texts_say = f.texts_say ∙ (λ i. padded 512 None (map (text_said (sym s6.0 i)) (words_in (sym s5.0 i) (sym offsets i))));
      };
      after = s6.1;
    }

same_entry : (a b : Description) → a.names ≡ b.names → a.flags ≡ b.flags → a.numbers ≡ b.numbers → a.texts ≡ b.texts → a ≡ b
same_entry a b n f k t = λ i. record { names = n i; flags = f i; numbers = k i; texts = t i }

pub files_have_one_entry : FilesHaveOneEntry
files_have_one_entry width bytes rest other entry another f g =
    let a : WasFile width bytes entry rest = was_file width bytes rest entry f in
    let b : WasFile width bytes another other = was_file width bytes other another g in (
      same_entry entry another (a.read.names_say ∙ sym b.read.names_say) (a.read.flags_say ∙ sym b.read.flags_say)
          (a.read.numbers_say ∙ sym b.read.numbers_say) (a.read.texts_say ∙ sym b.read.texts_say),
      sym a.after ∙ b.after,
    )

header_tests : (n w m : ℕ) (fault : BinFault) → 12 ≤ n → n ≤ 32768 → w ≡ m
    → cond (nat_lt 32768 n) (Some TooLarge) (cond (nat_lt n 2) (Some Truncated) (cond (not (w == m)) (Some fault) (cond (nat_lt n 12) (Some Truncated) None))) ≡ None
header_tests n w m fault a b e = grind (arith, nat_tests)

room_tests : (names flags numbers offsets table end n : ℕ) → 1 ≤ names → names ≤ 32767 → flags ≤ 64 → numbers ≤ 64 → offsets ≤ 512 → table ≤ 32767 → end ≤ n
    → cond (names == 0 || nat_lt 32767 names || nat_lt 64 flags || nat_lt 64 numbers || nat_lt 512 offsets || nat_lt 32767 table) (Some BadCount) (cond (nat_lt n end) (Some Truncated) None) ≡ None
room_tests names flags numbers offsets table end n a b c d e f g = grind (arith, nat_tests)

sections_tests : (ended named outside unended : Bool) → ended ≡ true → named ≡ true → outside ≡ false → unended ≡ false
    → cond (not (ended && named)) (Some BadNames) (cond outside (Some BadOffset) (cond unended (Some Unended) None)) ≡ None
sections_tests ended named outside unended a b c d = rw (a, b, c, d) refl

pub files_are_not_refused : FilesAreNotRefused
files_are_not_refused width bytes rest entry f =
    let r : WereRead width bytes entry = (was_file width bytes rest entry f).read in
    let header : header_refusal width bytes ≡ None = header_tests (length bytes) (word_at bytes 0) (magic_of width) (wrong_magic width (word_at bytes 0)) r.header r.short r.is_magic in
    let room : room_refusal width bytes ≡ None =
    room_tests (names_of bytes) (flags_of bytes) (numbers_of bytes) (offsets_of bytes) (table_of bytes) (end_place width bytes) (length bytes)
    r.fits.some_names r.fits.names r.fits.flags r.fits.numbers r.fits.offsets r.fits.table r.fits.room in
    let names : List ℕ = part bytes 12 (names_of bytes) in
    let table : List ℕ = part bytes (table_place width bytes) (table_of bytes) in
    let offsets : List ℕ = words_in (part bytes (offsets_place width bytes) (2 * offsets_of bytes)) (offsets_of bytes) in
    let sections : sections_refusal names table offsets ≡ None =
    sections_tests (list_any is_nul names) (are_names (before_first is_nul names)) (list_any (is_outside table) offsets) (list_any (is_unended table) offsets)
    r.names_end (ap are_names (sym r.names_say) ∙ r.named) r.inside r.texts_end in
    ap (λ o. option_or o (option_or (room_refusal width bytes) (sections_refusal names table offsets))) header
    ∙ ap (λ o. option_or o (sections_refusal names table offsets)) room ∙ sections
