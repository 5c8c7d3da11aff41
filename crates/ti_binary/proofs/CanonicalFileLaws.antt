-- The canonical form of an entry is a file of it.
use Rattle.std.proofs.Common.{◌≡◌, ℕ, ◌+◌, ◌*◌, ◌%◌, ◌-◌, ◌<◌, ◌≤◌, ◌||◌, ◌&&◌, not, min, nat_lt, nat_le, cond, Bool, false, true, refl, sym, ◌∙◌, ap, arith, zero, suc, List, [], ◌∷◌, ◌++◌, append_assoc, length, length-append, map, take, drop, replicate, Option, Some, None, is_some, IfSome, slice_index_or, subst}
use Rattle.std.proofs.Math.ListN.{length-replicate}
use Rattle.ti_caps.specs.Names.{is_name_byte, are_names}
use Rattle.std.specs.List.{list_all, list_any, before_first, range_with_len, position_or_len}
use Rattle.byteorder.specs.Endian.{little_number}
use Rattle.std.proofs.lemmas.Bool.Decides.{nat_tests}
use Rattle.std.proofs.lemmas.Bool.{false≢true, or_parts}
use Rattle.std.proofs.lemmas.List.{drop_at, append-nil, length-map}
use Rattle.ti_caps.specs.Description.{Description, IsDescription, has_nul}
use Rattle.ti_binary.specs.Canonical.{canonical, header_of, padding, kept_flags, kept_numbers, kept_texts, word, words, up_to_last, flag_byte, number_word, offset_of, offsets_from, ended, table_of}
use Rattle.ti_binary.specs.FileLaws.{CanonicalReadsBack, LongNamesReadBack}
use Rattle.ti_binary.proofs.CanonicalLaws.{and_parts, canonical_length, names_short, words_length, offsets_length}
use Rattle.ti_binary.proofs.FileLaws.{files_have_one_entry}
use Rattle.ti_binary.specs.declared.widths.Width.TheVariants.{Legacy}
use Rattle.ti_binary.specs.Files.{IsFile, word_at, words_in, padded, flag_said, number_said, text_said, is_nul, is_outside, is_unended, is_negative}

-- a 16-bit number is read as it was written
word_back : (n : ℕ) (rest : List ℕ) → n < 65536 → little_number 2 (word n ++ rest) ≡ n
word_back n rest small = omega (arith, small)

-- ---- flags and numbers

flags_back : (flags : List Bool) → map flag_said (map flag_byte flags) ≡ flags
flags_back [] = refl
flags_back (true ∷ flags) = ap (λ fs. true ∷ fs) (flags_back flags)
flags_back (false ∷ flags) = ap (λ fs. false ∷ fs) (flags_back flags)

abbrev IsSmall : Option ℕ → Type 0
IsSmall None = Unit {0}
IsSmall (Some n) = n ≤ 32767

number_back : (o : Option ℕ) → IsSmall o → number_said Legacy (number_word o) ≡ o
number_back None h = refl
number_back (Some n) h =
    let test : nat_lt 32767 n ≡ false = grind (arith, nat_tests) in
    let least : min n 32767 ≡ n = grind (arith, nat_tests) in
    ap (λ b. cond b None (Some (min n 32767))) test ∙ ap Some least

-- ---- what is kept, and then nothing

absent_all : {A : Type 0} (present : A → Bool) (none : A) → ((x : A) → present x ≡ false → x ≡ none) → (xs : List A)
    → list_any present xs ≡ false → xs ≡ replicate (length xs) none
absent_all present none only [] h = refl
absent_all present none only (x ∷ xs) h =
    let parts = or_parts (present x) (list_any present xs) h in
    (λ i. only x parts.0 i ∷ absent_all present none only xs parts.1 i)

abbrev Padded : {A : Type 0} → (A → Bool) → A → List A → List A → Type 0
Padded present none xs kept = kept ++ replicate (length xs - length kept) none ≡ xs

kept_step : {A : Type 0} (present : A → Bool) (none x : A) → ((y : A) → present y ≡ false → y ≡ none) → (xs : List A) (b : Bool)
    → (present x || list_any present xs) ≡ b → Padded present none xs (up_to_last present xs)
    → Padded present none (x ∷ xs) (cond b (x ∷ up_to_last present xs) [])
kept_step present none x only xs true e h =
    let left : length (x ∷ xs) - length (x ∷ up_to_last present xs) ≡ length xs - length (up_to_last present xs) = omega arith in
    ap (λ n. x ∷ up_to_last present xs ++ replicate n none) left ∙ ap (λ ys. x ∷ ys) h
kept_step present none x only xs false e h =
    let all : length (x ∷ xs) - 0 ≡ length (x ∷ xs) = omega arith in
    ap (λ n. replicate n none) all ∙ sym (absent_all present none only (x ∷ xs) e)

-- what is kept and the absent ones after it are all
kept_padded : {A : Type 0} (present : A → Bool) (none : A) → ((x : A) → present x ≡ false → x ≡ none) → (xs : List A)
    → Padded present none xs (up_to_last present xs)
kept_padded present none only [] = refl
kept_padded present none only (x ∷ xs) =
    kept_step present none x only xs (present x || list_any present xs) refl (kept_padded present none only xs)

only_false : (b : Bool) → b ≡ false → b ≡ false
only_false b h = h

only_none : {A : Type 0} (o : Option A) → is_some o ≡ false → o ≡ None
only_none None h = refl
only_none (Some x) h = absurd (false≢true (sym h))

-- ---- the numbers of a section

range_next : {A : Type 0} (f g : ℕ → A) (a n : ℕ) → ((i : ℕ) → f (suc i) ≡ g i) → map f (range_with_len (suc a) n) ≡ map g (range_with_len a n)
range_next f g a zero e = refl
range_next f g a (suc n) e =
    let next : a + 1 ≡ suc a = omega arith in
    let before : suc a + 1 ≡ suc (suc a) = omega arith in
    ap (λ k. f (suc a) ∷ map f (range_with_len k n)) before
    ∙ ap (λ xs. f (suc a) ∷ xs) (range_next f g (suc a) n e)
    ∙ ap (λ x. x ∷ map g (range_with_len (suc a) n)) (e a)
    ∙ ap (λ k. g a ∷ map g (range_with_len k n)) (sym next)

abbrev AreWords : List ℕ → Type 0
AreWords [] = Unit {0}
AreWords (n ∷ ns) = (n < 65536) × AreWords ns

word_further : (n i : ℕ) (rest : List ℕ) → word_at (word n ++ rest) (2 * suc i) ≡ word_at rest (2 * i)
word_further n i rest =
    let offset : 2 * suc i ≡ suc (suc (2 * i)) = omega arith in
    ap (λ p. word_at (word n ++ rest) p) offset

words_back : (ns : List ℕ) → AreWords ns → words_in (words ns) (length ns) ≡ ns
words_back [] h = refl
words_back (n ∷ ns) h =
    let first : word_at (word n ++ words ns) (2 * 0) ≡ n = word_back n (words ns) h.0 in
    let rest : map (λ i. word_at (word n ++ words ns) (2 * i)) (range_with_len 1 (length ns)) ≡ words_in (words ns) (length ns) =
    range_next (λ i. word_at (word n ++ words ns) (2 * i)) (λ i. word_at (words ns) (2 * i)) 0 (length ns) (λ i. word_further n i (words ns)) in
    (λ i. first i ∷ (rest ∙ words_back ns h.1) i)

-- ---- texts

before_nul_step : (b : ℕ) (text back : List ℕ) → is_nul b ≡ false → before_first is_nul (text ++ 0 ∷ back) ≡ text
    → before_first is_nul (b ∷ text ++ 0 ∷ back) ≡ b ∷ text
before_nul_step b text back e h =
    let n : ℕ = position_or_len is_nul (text ++ 0 ∷ back) in
    let one : 1 + position_or_len is_nul (text ++ 0 ∷ back) ≡ suc (position_or_len is_nul (text ++ 0 ∷ back)) = omega arith in
    ap (λ t. take (cond (not t) (1 + position_or_len is_nul (text ++ 0 ∷ back)) 0) (b ∷ text ++ 0 ∷ back)) e
    ∙ ap (λ k. take k (b ∷ text ++ 0 ∷ back)) one
    ∙ ap (λ t. b ∷ t) h

-- a text without a NUL, and a NUL after it
before_nul_is : (text back : List ℕ) → has_nul text ≡ false → before_first is_nul (text ++ 0 ∷ back) ≡ text
before_nul_is [] back h = refl
before_nul_is (b ∷ text) back h =
    let parts = or_parts (is_nul b) (has_nul text) h in
    before_nul_step b text back parts.0 (before_nul_is text back parts.1)

has_nul_after : (text back : List ℕ) → list_any is_nul (text ++ 0 ∷ back) ≡ true
has_nul_after [] back = refl
has_nul_after (b ∷ text) back = ap (λ t. is_nul b || t) (has_nul_after text back) ∙ either_true (is_nul b)
  where
    either_true : (t : Bool) → (t || true) ≡ true
    either_true true = refl
    either_true false = refl

abbrev IsWhole : Option (List ℕ) → Type 0
IsWhole None = Unit {0}
IsWhole (Some text) = has_nul text ≡ false

abbrev AreWhole : List (Option (List ℕ)) → Type 0
AreWhole [] = Unit {0}
AreWhole (o ∷ os) = IsWhole o × AreWhole os

-- what an offset says of a table that begins with so many bytes, then this text, then others
text_back : (o : Option (List ℕ)) (front back : List ℕ) (size : ℕ) → IsWhole o → length front ≡ size → size + length (ended o) ≤ 32767
    → (text_said (front ++ (ended o ++ back)) (offset_of size o) ≡ o)
    × (is_outside (front ++ (ended o ++ back)) (offset_of size o) ≡ false)
    × (is_unended (front ++ (ended o ++ back)) (offset_of size o) ≡ false)
text_back None front back size w e le = (refl, refl, refl)
text_back (Some text) front back size w e le =
    let table : List ℕ = front ++ (ended (Some text) ++ back) in
    let after : drop size table ≡ text ++ 0 ∷ back = drop_at front (ended (Some text) ++ back) size e ∙ append_assoc text (0 ∷ []) back in
    let long : length (ended (Some text)) ≡ length text + 1 = length-append text (0 ∷ []) in
    let all : length table ≡ length front + (length (ended (Some text)) + length back) = length-append front (ended (Some text) ++ back) ∙ ap (λ n. length front + n) (length-append (ended (Some text)) back) in
    let there : is_negative size ≡ false = below 32767 size (omega (arith, le)) in
    let inside : nat_lt size (length table) ≡ true = above size (length table) (omega (arith, e, all, long)) in (
      ap (λ b. cond b None (Some (before_first is_nul (drop size table)))) there ∙ ap Some (ap (before_first is_nul) after ∙ before_nul_is text back w),
      ap (λ b. not b && not (nat_lt size (length table))) there ∙ ap not inside,
      ap (λ b. not b && not (list_any is_nul (drop size table))) there ∙ ap not (ap (list_any is_nul) after ∙ has_nul_after text back),
    )
  where
    below : (most n : ℕ) → n ≤ most → nat_lt most n ≡ false
    below most n h = grind (arith, nat_tests)

    above : (n size : ℕ) → n < size → nat_lt n size ≡ true
    above n size h = grind (arith, nat_tests)

-- what offsets say of a table
record TextsSaid (table : List ℕ) (size : ℕ) (texts : List (Option (List ℕ))) : Type 0 where
  said : map (text_said table) (offsets_from size texts) ≡ texts
  inside : list_any (is_outside table) (offsets_from size texts) ≡ false
  ends : list_any (is_unended table) (offsets_from size texts) ≡ false
  words : AreWords (offsets_from size texts)

offset_small : (o : Option (List ℕ)) (size : ℕ) → size ≤ 32767 → offset_of size o < 65536
offset_small None size le = omega arith
offset_small (Some text) size le = omega arith

neither : (a b : Bool) → a ≡ false → b ≡ false → (a || b) ≡ false
neither a b h k = rw (h, k) refl

texts_back : (texts : List (Option (List ℕ))) (front : List ℕ) (size : ℕ) → AreWhole texts → length front ≡ size → size + length (table_of texts) ≤ 32767
    → TextsSaid (front ++ table_of texts) size texts
texts_back [] front size w e le = record { said = refl; inside = refl; ends = refl; words = tt }
texts_back (o ∷ os) front size w e le =
    let long : length (ended o ++ table_of os) ≡ length (ended o) + length (table_of os) = length-append (ended o) (table_of os) in
    let one = text_back o front (table_of os) size w.0 e (omega (arith, le, long)) in
    let rest : TextsSaid ((front ++ ended o) ++ table_of os) (size + length (ended o)) os =
    texts_back os (front ++ ended o) (size + length (ended o)) w.1 (length-append front (ended o) ∙ ap (λ n. n + length (ended o)) e) (omega (arith, le, long)) in
    let there : TextsSaid (front ++ (ended o ++ table_of os)) (size + length (ended o)) os = subst (λ t. TextsSaid t (size + length (ended o)) os) (append_assoc front (ended o) (table_of os)) rest in
    let table : List ℕ = front ++ (ended o ++ table_of os) in
    record {
      said = λ i. one.0 i ∷ there.said i;
      inside = neither (is_outside table (offset_of size o)) (list_any (is_outside table) (offsets_from (size + length (ended o)) os)) one.1 there.inside;
      ends = neither (is_unended table (offset_of size o)) (list_any (is_unended table) (offsets_from (size + length (ended o)) os)) one.2 there.ends;
      words = (offset_small o size (omega (arith, le)), there.words);
    }

-- ---- what is kept of good lists is good

abbrev AreSmall : List (Option ℕ) → Type 0
AreSmall [] = Unit {0}
AreSmall (o ∷ os) = IsSmall o × AreSmall os

small_one : (o : Option ℕ) → IfSome o (λ n. n ≤ 32767) → IsSmall o
small_one None h = tt
small_one (Some n) h = h

are_small : (os : List (Option ℕ)) → ((i : ℕ) → IfSome (slice_index_or os i None) (λ n. n ≤ 32767)) → AreSmall os
are_small [] h = tt
are_small (o ∷ os) h = (small_one o (h 0), are_small os (λ i. h (suc i)))

whole_one : (o : Option (List ℕ)) → IfSome o (λ t. has_nul t ≡ false) → IsWhole o
whole_one None h = tt
whole_one (Some t) h = h

are_whole : (os : List (Option (List ℕ))) → ((i : ℕ) → IfSome (slice_index_or os i None) (λ t. has_nul t ≡ false)) → AreWhole os
are_whole [] h = tt
are_whole (o ∷ os) h = (whole_one o (h 0), are_whole os (λ i. h (suc i)))

small_kept : (os : List (Option ℕ)) → AreSmall os → AreSmall (up_to_last is_some os)
small_kept [] h = tt
small_kept (o ∷ os) h = small_cond (is_some o || list_any is_some os) o (up_to_last is_some os) h.0 (small_kept os h.1)
  where
    small_cond : (b : Bool) (o : Option ℕ) (os : List (Option ℕ)) → IsSmall o → AreSmall os → AreSmall (cond b (o ∷ os) [])
    small_cond true o os a b = (a, b)
    small_cond false o os a b = tt

whole_kept : (os : List (Option (List ℕ))) → AreWhole os → AreWhole (up_to_last is_some os)
whole_kept [] h = tt
whole_kept (o ∷ os) h = whole_cond (is_some o || list_any is_some os) o (up_to_last is_some os) h.0 (whole_kept os h.1)
  where
    whole_cond : (b : Bool) (o : Option (List ℕ)) (os : List (Option (List ℕ))) → IsWhole o → AreWhole os → AreWhole (cond b (o ∷ os) [])
    whole_cond true o os a b = (a, b)
    whole_cond false o os a b = tt

numbers_back : (os : List (Option ℕ)) → AreSmall os → map (number_said Legacy) (map number_word os) ≡ os
numbers_back [] h = refl
numbers_back (o ∷ os) h = λ i. number_back o h.0 i ∷ numbers_back os h.1 i

number_small : (o : Option ℕ) → IsSmall o → number_word o < 65536
number_small None h = omega arith
number_small (Some n) h = omega (arith, h)

numbers_are_words : (os : List (Option ℕ)) → AreSmall os → AreWords (map number_word os)
numbers_are_words [] h = tt
numbers_are_words (o ∷ os) h = (number_small o h.0, numbers_are_words os h.1)

-- ---- names

name_byte : (b : ℕ) → is_name_byte b ≡ true → is_nul b ≡ false
name_byte b h = grind (arith, nat_tests)

no_nul_in : (names : List ℕ) → list_all is_name_byte names ≡ true → has_nul names ≡ false
no_nul_in [] h = refl
no_nul_in (b ∷ names) h =
    let parts = and_parts (is_name_byte b) (list_all is_name_byte names) h in
    neither (is_nul b) (has_nul names) (name_byte b parts.0) (no_nul_in names parts.1)

-- ---- the sections, one after another

nested : (h n f p k o t : List ℕ)
    → h ++ n ++ 0 ∷ f ++ p ++ k ++ o ++ t ≡ h ++ ((n ++ 0 ∷ []) ++ (f ++ (p ++ (k ++ (o ++ (t ++ []))))))
nested h n f p k o t =
    append_assoc (h ++ n ++ 0 ∷ f ++ p ++ k) o t
    ∙ append_assoc (h ++ n ++ 0 ∷ f ++ p) k (o ++ t)
    ∙ append_assoc (h ++ n ++ 0 ∷ f) p (k ++ (o ++ t))
    ∙ append_assoc (h ++ n) (0 ∷ f) (p ++ (k ++ (o ++ t)))
    ∙ append_assoc h n (0 ∷ (f ++ (p ++ (k ++ (o ++ t)))))
    ∙ ap (λ rest. h ++ rest) (sym (append_assoc n (0 ∷ []) (f ++ (p ++ (k ++ (o ++ t))))))
    ∙ ap (λ back. h ++ ((n ++ 0 ∷ []) ++ (f ++ (p ++ (k ++ (o ++ back)))))) (sym (append-nil t))

kept_length : {A : Type 0} (present : A → Bool) (none : A) → ((x : A) → present x ≡ false → x ≡ none) → (xs : List A) → length (up_to_last present xs) ≤ length xs
kept_length present none only xs =
    omega (arith, ap length (kept_padded present none only xs), length-append (up_to_last present xs) (replicate (length xs - length (up_to_last present xs)) none))

padded_is : {A : Type 0} (present : A → Bool) (none : A) → ((x : A) → present x ≡ false → x ≡ none) → (xs : List A) (count : ℕ) → length xs ≡ count
    → xs ≡ padded count none (up_to_last present xs)
padded_is present none only xs count e =
    sym (ap (λ n. up_to_last present xs ++ replicate (n - length (up_to_last present xs)) none) (sym e) ∙ kept_padded present none only xs)

names_bytes : (names : List ℕ) → are_names names ≡ true → list_all is_name_byte names ≡ true
names_bytes names h =
    let rest = (and_parts (nat_le 1 (length names) && nat_le (length names) 511) _ h).1 in
    (and_parts (list_all is_name_byte names) _ rest).0

pub canonical_file : (entry : Description) → IsDescription entry → length (canonical entry) ≤ 4096 → IsFile Legacy (canonical entry) entry []
canonical_file entry d small =
    let short : length entry.names ≤ 511 = names_short entry.names d.named in
    let flags : List Bool = kept_flags entry in
    let numbers : List (Option ℕ) = kept_numbers entry in
    let texts : List (Option (List ℕ)) = kept_texts entry in
    let long = canonical_length entry in
    let few_flags : length flags ≤ 64 = omega (arith, kept_length (λ present. present) false only_false entry.flags, d.flags) in
    let few_numbers : length numbers ≤ 64 = omega (arith, kept_length is_some None only_none entry.numbers, d.numbers) in
    let few_texts : length texts ≤ 512 = omega (arith, kept_length is_some None only_none entry.texts, d.texts) in
    let table : length (table_of texts) ≤ 4096 = omega (arith, long, small) in
    let header : List ℕ = words (header_of entry) in
    let names : List ℕ = entry.names ++ 0 ∷ [] in
    let names_length : length names ≡ length entry.names + 1 = length-append entry.names (0 ∷ []) in
    let small_numbers : AreSmall numbers = small_kept entry.numbers (are_small entry.numbers d.small) in
    let whole_texts : AreWhole texts = whole_kept entry.texts (are_whole entry.texts d.whole) in
    let said : TextsSaid (table_of texts) 0 texts = texts_back texts [] 0 whole_texts refl (omega (arith, table)) in
    let at2 : word_at header 2 ≡ length entry.names + 1 = word_back (length entry.names + 1) (words (length flags ∷ length numbers ∷ length texts ∷ length (table_of texts) ∷ [])) (omega (arith, short)) in
    let at4 : word_at header 4 ≡ length flags = word_back (length flags) (words (length numbers ∷ length texts ∷ length (table_of texts) ∷ [])) (omega (arith, few_flags)) in
    let at6 : word_at header 6 ≡ length numbers = word_back (length numbers) (words (length texts ∷ length (table_of texts) ∷ [])) (omega (arith, few_numbers)) in
    let at8 : word_at header 8 ≡ length texts = word_back (length texts) (words (length (table_of texts) ∷ [])) (omega (arith, few_texts)) in
    let at10 : word_at header 10 ≡ length (table_of texts) = word_back (length (table_of texts)) [] (omega (arith, table)) in
    let number_words : words_in (words (map number_word numbers)) (word_at header 6) ≡ map number_word numbers =
    ap (words_in (words (map number_word numbers))) (at6 ∙ sym (length-map numbers number_word)) ∙ words_back (map number_word numbers) (numbers_are_words numbers small_numbers) in
    let offset_words : words_in (words (offsets_from 0 texts)) (word_at header 8) ≡ offsets_from 0 texts =
    ap (words_in (words (offsets_from 0 texts))) (at8 ∙ sym (offsets_length 0 texts)) ∙ words_back (offsets_from 0 texts) said.words in
    let no_nul : has_nul entry.names ≡ false = no_nul_in entry.names (names_bytes entry.names d.named) in
    record {
      header = header;
      names = names;
      flags = map flag_byte flags;
      odd = padding (length entry.names + 1 + length flags);
      numbers = words (map number_word numbers);
      offsets = words (offsets_from 0 texts);
      table = table_of texts;
      whole = nested header entry.names (map flag_byte flags) (padding (length entry.names + 1 + length flags)) (words (map number_word numbers)) (words (offsets_from 0 texts)) (table_of texts);
      short = omega (arith, small);
      header_size = refl;
      is_magic = refl;
      names_size = at2 ∙ sym names_length;
      flag_count = at4 ∙ sym (length-map flags flag_byte);
      odd_size = length-replicate {A = ℕ} ((length entry.names + 1 + length flags) % 2) 0 ∙ (λ i. (sym names_length i + sym (length-map flags flag_byte) i) % 2);
      numbers_fit = words_length (map number_word numbers) ∙ ap (λ n. 2 * n) (length-map numbers number_word ∙ sym at6);
      offsets_size = words_length (offsets_from 0 texts) ∙ ap (λ n. 2 * n) (offsets_length 0 texts ∙ sym at8);
      table_size = at10;
      some_names = omega (arith, names_length);
      names_limit = omega (arith, names_length, short);
      flags_limit = omega (arith, length-map flags flag_byte, few_flags);
      numbers_limit = omega (arith, at6, few_numbers);
      offsets_limit = omega (arith, at8, few_texts);
      table_limit = omega (arith, table);
      names_end = has_nul_after entry.names [];
      names_say = sym (before_nul_is entry.names [] no_nul);
      named = d.named;
      flags_say = padded_is (λ present. present) false only_false entry.flags 64 d.flags ∙ ap (padded 64 false) (sym (flags_back flags));
      numbers_say =
          padded_is is_some None only_none entry.numbers 64 d.numbers
          ∙ ap (padded 64 None) (sym (ap (map (number_said Legacy)) number_words ∙ numbers_back numbers small_numbers));
      offsets_inside = ap (list_any (is_outside (table_of texts))) offset_words ∙ said.inside;
      texts_end = ap (list_any (is_unended (table_of texts))) offset_words ∙ said.ends;
      texts_say =
          padded_is is_some None only_none entry.texts 512 d.texts
          ∙ ap (padded 512 None) (sym (ap (map (text_said (table_of texts))) offset_words ∙ said.said));
    }

pub long_names_read_back : LongNamesReadBack
long_names_read_back entry d small =
    let is : IsFile Legacy (canonical entry) entry [] = canonical_file entry d small in
    (is, λ other rest f. files_have_one_entry Legacy (canonical entry) rest [] other entry f is)

pub canonical_reads_back : CanonicalReadsBack
canonical_reads_back entry d short small = long_names_read_back entry d small
