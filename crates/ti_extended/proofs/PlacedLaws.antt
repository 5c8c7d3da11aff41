-- Where the sections of a compiled file are.
use Rattle.std.proofs.Common.{◌≡◌, ℕ, ◌+◌, ◌*◌, ◌%◌, ◌≤◌, ◌-◌, refl, sym, ◌∙◌, ap, arith, List, ◌++◌, append_assoc, length, length-append, take, drop}
use Rattle.std.proofs.lemmas.List.{take_at, drop_at, drop-drop, drop-take, get_or-take}
use Rattle.byteorder.specs.Endian.{little_number}
use Rattle.ti_caps.specs.Description.{Description}
use Rattle.ti_binary.specs.Files.{IsFile, flags_of, magic_of, names_of, numbers_of, numbers_place, numbers_size, offsets_place, part, word_at}
use Rattle.ti_binary.specs.declared.widths.Width.{Width}

-- a number of the header, which is 12 bytes
word_in_header : (bytes : List ℕ) (k : ℕ) → k + 2 ≤ 12 → word_at (take 12 bytes) k ≡ word_at bytes k
word_in_header bytes k le =
    let size : 12 ≡ k + (12 - k) = omega arith in
    let front : drop k (take 12 bytes) ≡ take (12 - k) (drop k bytes) = ap (λ n. drop k (take n bytes)) size ∙ drop-take k (12 - k) bytes in
    let low = get_or-take (12 - k) (drop k bytes) 0 0 (omega arith) in
    let high = get_or-take (12 - k) (drop k bytes) 1 0 (omega arith) in
    ap (little_number 2) front ∙ (λ i. low i + 256 * (high i + 256 * 0))

-- a part, and what follows it
pub step : (bytes front back : List ℕ) (offset size next : ℕ) → drop offset bytes ≡ front ++ back → length front ≡ size → offset + size ≡ next
    → (part bytes offset size ≡ front) × (drop next bytes ≡ back)
step bytes front back offset size next e len n = (
  ap (take size) e ∙ take_at front back size len,
  ap (λ k. drop k bytes) (sym n) ∙ sym (drop-drop size offset bytes) ∙ ap (drop size) e ∙ drop_at front back size len,
)

-- bytes of these sections, and what follows the numbers
pub record Placed (width : Width) (bytes header names flags odd numbers back : List ℕ) : Type 0 where
  pub header_size : 12 ≤ length bytes
  pub word : (k : ℕ) → k + 2 ≤ 12 → word_at bytes k ≡ word_at header k
  pub place : numbers_place bytes ≡ 12 + length names + length flags + length odd
  pub front : take (numbers_place bytes) bytes ≡ header ++ (names ++ (flags ++ odd))
  pub numbers_are : part bytes (numbers_place bytes) (numbers_size width (numbers_of bytes)) ≡ numbers
  pub behind : drop (offsets_place width bytes) bytes ≡ back
  pub room : offsets_place width bytes ≤ length bytes

regroup : (header names flags odd numbers back : List ℕ)
    → header ++ (names ++ (flags ++ (odd ++ (numbers ++ back)))) ≡ (header ++ (names ++ (flags ++ odd))) ++ (numbers ++ back)
regroup header names flags odd numbers back =
    sym (append_assoc header (names ++ (flags ++ odd)) (numbers ++ back)
    ∙ ap (λ x. header ++ x) (append_assoc names (flags ++ odd) (numbers ++ back) ∙ ap (λ x. names ++ x) (append_assoc flags odd (numbers ++ back))))

pub placed : (width : Width) (bytes header names flags odd numbers back : List ℕ)
    → bytes ≡ header ++ (names ++ (flags ++ (odd ++ (numbers ++ back))))
    → length header ≡ 12 → word_at header 2 ≡ length names → word_at header 4 ≡ length flags → length odd ≡ (length names + length flags) % 2
    → length numbers ≡ numbers_size width (word_at header 6) → Placed width bytes header names flags odd numbers back
placed width bytes header names flags odd numbers back whole h2 n2 f2 o2 k2 =
    let after_header : List ℕ = names ++ (flags ++ (odd ++ (numbers ++ back))) in
    let front : List ℕ = header ++ (names ++ (flags ++ odd)) in
    let head : take 12 bytes ≡ header = ap (take 12) whole ∙ take_at header after_header 12 h2 in
    let at : (k : ℕ) → k + 2 ≤ 12 → word_at bytes k ≡ word_at header k = λ k le. sym (word_in_header bytes k le) ∙ ap (λ h. word_at h k) head in
    let names_are : names_of bytes ≡ length names = at 2 (omega arith) ∙ n2 in
    let flags_are : flags_of bytes ≡ length flags = at 4 (omega arith) ∙ f2 in
    let odd_is : (names_of bytes + flags_of bytes) % 2 ≡ length odd = (λ i. (names_are i + flags_are i) % 2) ∙ sym o2 in
    let place : numbers_place bytes ≡ 12 + length names + length flags + length odd = omega (arith, names_are, flags_are, odd_is) in
    let long : length front ≡ numbers_place bytes =
    omega (arith, place, h2, length-append header (names ++ (flags ++ odd)), length-append names (flags ++ odd), length-append flags odd) in
    let all : bytes ≡ front ++ (numbers ++ back) = whole ∙ regroup header names flags odd numbers back in
    let size : length numbers ≡ numbers_size width (numbers_of bytes) = k2 ∙ ap (numbers_size width) (sym (at 6 (omega arith))) in
    let start : drop (numbers_place bytes) bytes ≡ numbers ++ back = ap (drop (numbers_place bytes)) all ∙ drop_at front (numbers ++ back) (numbers_place bytes) long in
    let s = step bytes numbers back (numbers_place bytes) (numbers_size width (numbers_of bytes)) (offsets_place width bytes) start size refl in
    let total : length bytes ≡ length front + (length numbers + length back) =
    ap length all ∙ length-append front (numbers ++ back) ∙ ap (λ n. length front + n) (length-append numbers back) in
    record {
      header_size = omega (arith, total, long, place);
      word = at;
      place = place;
      front = ap (take (numbers_place bytes)) all ∙ take_at front (numbers ++ back) (numbers_place bytes) long;
      numbers_are = s.0;
      behind = s.1;
      room = omega (arith, total, long, size);
    }

-- the sections of a file
pub file_placed : (width : Width) (bytes rest : List ℕ) (entry : Description) (f : IsFile width bytes entry rest)
    → Placed width bytes f.header f.names f.flags f.odd f.numbers (f.offsets ++ (f.table ++ rest))
file_placed width bytes rest entry f =
    placed width bytes f.header f.names f.flags f.odd f.numbers (f.offsets ++ (f.table ++ rest)) f.whole f.header_size f.names_size f.flag_count f.odd_size f.numbers_fit

pub file_magic : (width : Width) (bytes rest : List ℕ) (entry : Description) → IsFile width bytes entry rest → word_at bytes 0 ≡ magic_of width
file_magic width bytes rest entry f = (file_placed width bytes rest entry f).word 0 (omega arith) ∙ f.is_magic

pub file_header : (width : Width) (bytes rest : List ℕ) (entry : Description) → IsFile width bytes entry rest → 12 ≤ length bytes
file_header width bytes rest entry f = (file_placed width bytes rest entry f).header_size

pub file_room : (width : Width) (bytes rest : List ℕ) (entry : Description) → IsFile width bytes entry rest → offsets_place width bytes ≤ length bytes
file_room width bytes rest entry f = (file_placed width bytes rest entry f).room

pub file_few : (width : Width) (bytes rest : List ℕ) (entry : Description) → IsFile width bytes entry rest → numbers_of bytes ≤ 64
file_few width bytes rest entry f =
    omega (arith, (file_placed width bytes rest entry f).word 6 (omega arith), f.numbers_limit)

-- what follows a file is its last bytes
pub file_rest : (width : Width) (bytes rest : List ℕ) (entry : Description) → IsFile width bytes entry rest
    → (length rest ≤ length bytes) × (drop (length bytes - length rest) bytes ≡ rest)
file_rest width bytes rest entry f =
    let front : List ℕ = f.header ++ (f.names ++ (f.flags ++ (f.odd ++ (f.numbers ++ (f.offsets ++ f.table))))) in
    let all : bytes ≡ front ++ rest = f.whole ∙ simp append_assoc in
    let long : length bytes ≡ length front + length rest = ap length all ∙ length-append front rest in
    let size : length front ≡ length bytes - length rest = omega (arith, long) in
    (omega (arith, long), ap (drop (length bytes - length rest)) all ∙ drop_at front rest (length bytes - length rest) size)
