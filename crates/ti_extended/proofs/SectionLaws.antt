-- The form of a section is read as what was written.
use Rattle.std.proofs.Common.{◌≡◌, ℕ, ◌+◌, ◌*◌, ◌%◌, ◌≤◌, ◌==◌, ◌&&◌, not, nat_le, Bool, true, false, refl, sym, ◌∙◌, ap, arith, zero, suc, List, [], ◌∷◌, ◌++◌, length, length-append, map, drop, replicate, Some, is_some}
use Rattle.std.specs.List.{flat_map, list_all, list_any}
use Rattle.std.proofs.Math.ListN.{length-replicate}
use Rattle.std.proofs.lemmas.Bool.Decides.{nat_tests}
use Rattle.std.proofs.lemmas.List.{append-nil, drop_at}
use Rattle.ti_binary.specs.Canonical.{padding, table_of, words}
use Rattle.ti_binary.specs.Files.{flag_said, is_unended, numbers_in, numbers_size, part, text_said, words_in}
use Rattle.ti_binary.specs.declared.widths.Width.{Width}
use Rattle.ti_extended.specs.Whole.{Capabilities, are_capabilities, are_distinct, is_extended_name, is_small}
use Rattle.ti_extended.specs.Sections.{capabilities_in, end_place, flag_count, flags_said, is_sound, is_unnamed, kept, name_count, name_offsets, name_said, names_in_table, names_place, names_said, number_count, numbers_place, numbers_said, presence, present, table, table_place, table_size, text_count, text_offsets, texts_place, texts_said, whole_said}
use Rattle.ti_extended.specs.Forms.{flags_among, header_of, joined, number_bytes, section_form, starts}
use Rattle.ti_extended.proofs.NumberLaws.{AllWithin, all_there, all_within_fit, half_back, numbers_back, numbers_length, present_all}
use Rattle.ti_extended.proofs.PlacedLaws.{step}
use Rattle.ti_extended.proofs.TextLaws.{AllSaid, AllWhole, all_said, and_parts, starts_length, table_joined, whole_names, whole_texts, words_back, words_length}

-- ---- all are there

flags_back : (n : ℕ) → map flag_said (replicate n 1) ≡ replicate n true
flags_back zero = refl
flags_back (suc n) = ap (λ bs. true ∷ bs) (flags_back n)

all_some : {A : Type 0} (xs : List A) → map is_some (map Some xs) ≡ replicate (length xs) true
all_some [] = refl
all_some (x ∷ xs) = ap (λ bs. true ∷ bs) (all_some xs)

replicate-append : (m n : ℕ) → replicate m true ++ replicate n true ≡ replicate (m + n) true
replicate-append zero n = ap (λ k. replicate k true) (zero_plus n)
  where
    zero_plus : (n : ℕ) → n ≡ 0 + n
    zero_plus n = omega arith
replicate-append (suc m) n = ap (λ bs. true ∷ bs) (replicate-append m n) ∙ ap (λ k. replicate k true) (next m n)
  where
    next : (m n : ℕ) → suc (m + n) ≡ suc m + n
    next m n = omega arith

kept_all : (n : ℕ) (names : List (List ℕ)) → length names ≡ n → kept (replicate n true) names ≡ names
kept_all zero [] e = refl
kept_all zero (x ∷ xs) e = absurd (omega arith)
kept_all (suc n) [] e = absurd (omega arith)
kept_all (suc n) (x ∷ xs) e = ap (λ ys. x ∷ ys) (kept_all n xs (omega arith))

-- ---- what holds of capabilities that are written

pub record CanBeWritten (width : Width) (e : Capabilities) : Type 0 where
  pub within : AllWithin width e.numbers
  pub names : AllWhole e.names
  pub texts : AllWhole e.texts
  pub few : length e.numbers + length e.texts ≤ length e.names
  pub small : length (section_form width e) ≤ 32768

pub can_be_written : (width : Width) (e : Capabilities) → are_capabilities e ≡ true → AllWithin width e.numbers → length (section_form width e) ≤ 32768 → CanBeWritten width e
can_be_written width e good within small =
    let a = and_parts (list_all is_extended_name e.names) _ good in
    let b = and_parts (are_distinct e.names) _ a.1 in
    let c = and_parts (nat_le (length e.numbers + length e.texts) (length e.names)) _ b.1 in
    let d = and_parts (list_all is_small e.numbers) _ c.1 in
    record {
      within = within;
      names = whole_names e.names a.0;
      texts = whole_texts e.texts d.1;
      few = le (length e.numbers + length e.texts) (length e.names) c.0;
      small = small;
    }
  where
    le : (m n : ℕ) → nat_le m n ≡ true → m ≤ n
    le m n h = grind (arith, nat_tests)

-- how long the form is
pub form_length : (width : Width) (e : Capabilities) → length (section_form width e)
    ≡ 10 + (flags_among e + (flags_among e % 2 + (numbers_size width (length e.numbers) + (2 * length e.texts + (2 * length e.names + (length (joined e.texts) + length (joined e.names)))))))
form_length width e =
    let f : ℕ = flags_among e in
    let w : List ℕ = joined e.texts ++ joined e.names in
    let m : List ℕ = words (starts 0 e.names) ++ w in
    let o : List ℕ = words (starts 0 e.texts) ++ m in
    let n : List ℕ = flat_map (number_bytes width) e.numbers ++ o in
    let p : List ℕ = padding (flags_among e) ++ n in
    let b : List ℕ = replicate (flags_among e) 1 ++ p in
    let lw : length w ≡ length (joined e.texts) + length (joined e.names) = length-append (joined e.texts) (joined e.names) in
    let lm : length m ≡ 2 * length e.names + length w =
    length-append (words (starts 0 e.names)) w ∙ ap (λ k. k + length w) (words_length (starts 0 e.names) ∙ ap (λ k. 2 * k) (starts_length 0 e.names)) in
    let lo : length o ≡ 2 * length e.texts + length m =
    length-append (words (starts 0 e.texts)) m ∙ ap (λ k. k + length m) (words_length (starts 0 e.texts) ∙ ap (λ k. 2 * k) (starts_length 0 e.texts)) in
    let ln : length n ≡ numbers_size width (length e.numbers) + length o =
    length-append (flat_map (number_bytes width) e.numbers) o ∙ ap (λ k. k + length o) (numbers_length width e.numbers) in
    let lp : length p ≡ flags_among e % 2 + length n = length-append (padding (flags_among e)) n ∙ ap (λ k. k + length n) (length-replicate {A = ℕ} (flags_among e % 2) 0) in
    let lb : length b ≡ flags_among e + length p = length-append (replicate (flags_among e) 1) p ∙ ap (λ k. k + length p) (length-replicate {A = ℕ} (flags_among e) 1) in
    length-append (words (header_of e)) b ∙ ap (λ k. 10 + k) (lb ∙ ap (λ k. flags_among e + k) (lp ∙ ap (λ k. flags_among e % 2 + k) (ln ∙ ap (λ k. numbers_size width (length e.numbers) + k) (lo ∙ ap (λ k. 2 * length e.texts + k) (lm ∙ ap (λ k. 2 * length e.names + k) lw)))))

-- the parts of the form, by position
pub record PartsAre (width : Width) (e : Capabilities) (s : List ℕ) : Type 0 where
  pub many_flags : flag_count s ≡ flags_among e
  pub many_numbers : number_count s ≡ length e.numbers
  pub many_texts : text_count s ≡ length e.texts
  pub many_names : name_count s ≡ length e.names
  pub flags_are : part s 10 (flag_count s) ≡ replicate (flags_among e) 1
  pub numbers_are : part s (numbers_place s) (numbers_size width (number_count s)) ≡ flat_map (number_bytes width) e.numbers
  pub texts_are : part s (texts_place width s) (2 * text_count s) ≡ words (starts 0 e.texts)
  pub names_are : part s (names_place width s) (2 * name_count s) ≡ words (starts 0 e.names)
  pub table_is : table width s ≡ joined e.texts ++ joined e.names
  pub end_is : end_place width s ≡ length s

pub parts_are : (width : Width) (e : Capabilities) → CanBeWritten width e → PartsAre width e (section_form width e)
parts_are width e c =
    let s : List ℕ = section_form width e in
    let long = form_length width e in
    let w : List ℕ = joined e.texts ++ joined e.names in
    let m : List ℕ = words (starts 0 e.names) ++ w in
    let o : List ℕ = words (starts 0 e.texts) ++ m in
    let n : List ℕ = flat_map (number_bytes width) e.numbers ++ o in
    let p : List ℕ = padding (flags_among e) ++ n in
    let lw : length (joined e.texts ++ joined e.names) ≡ length (joined e.texts) + length (joined e.names) = length-append (joined e.texts) (joined e.names) in
    let at0 : flag_count (section_form width e) ≡ flags_among e = half_back (flags_among e) [] (omega (arith, long, c.small)) in
    let at2 : number_count (section_form width e) ≡ length e.numbers = half_back (length e.numbers) [] (omega (arith, long, c.small, c.few)) in
    let at4 : text_count (section_form width e) ≡ length e.texts = half_back (length e.texts) [] (omega (arith, long, c.small)) in
    let at8 : table_size (section_form width e) ≡ length (joined e.texts) + length (joined e.names) = half_back (length (joined e.texts) + length (joined e.names)) [] (omega (arith, long, c.small)) in
    let counts : name_count (section_form width e) ≡ length e.names = omega (arith, at0, at2, at4, c.few) in
    let start : drop 10 (section_form width e) ≡ replicate (flags_among e) 1 ++ p = refl in
    let s1 = step s (replicate (flags_among e) 1) p 10 (flag_count s) (10 + flag_count s) start (length-replicate {A = ℕ} (flags_among e) 1 ∙ sym at0) refl in
    let s2 = step s (padding (flags_among e)) n (10 + flag_count s) (flag_count s % 2) (numbers_place s) s1.1 (length-replicate {A = ℕ} (flags_among e % 2) 0 ∙ ap (λ k. k % 2) (sym at0)) refl in
    let s3 = step s (flat_map (number_bytes width) e.numbers) o (numbers_place s) (numbers_size width (number_count s)) (texts_place width s) s2.1 (numbers_length width e.numbers ∙ ap (numbers_size width) (sym at2)) refl in
    let s4 = step s (words (starts 0 e.texts)) m (texts_place width s) (2 * text_count s) (names_place width s) s3.1 (words_length (starts 0 e.texts) ∙ ap (λ k. 2 * k) (starts_length 0 e.texts ∙ sym at4)) refl in
    let s5 = step s (words (starts 0 e.names)) w (names_place width s) (2 * name_count s) (table_place width s) s4.1 (words_length (starts 0 e.names) ∙ ap (λ k. 2 * k) (starts_length 0 e.names ∙ sym counts)) refl in
    let s6 = step s w [] (table_place width s) (table_size s) (end_place width s) (s5.1 ∙ sym (append-nil w)) (lw ∙ sym at8) refl in
    record {
      many_flags = at0;
      many_numbers = at2;
      many_texts = at4;
      many_names = counts;
      flags_are = s1.0;
      numbers_are = s3.0;
      texts_are = s4.0;
      names_are = s5.0;
      table_is = s6.0;
      end_is = omega (arith, long, at0, at2, at4, at8, counts, ap (numbers_size width) at2, ap (λ k. k % 2) at0);
    }

-- ---- what they say

pub record SectionSays (width : Width) (e : Capabilities) (s : List ℕ) : Type 0 where
  pub capabilities : capabilities_in width s ≡ e
  pub sound : is_sound width s ≡ true

sound_tests : (n end size : ℕ) (texts names : Bool) → 10 ≤ n → end ≡ n → texts ≡ false → names ≡ false → (nat_le 10 n && (end == n && (not texts && not names))) ≡ true
sound_tests n end size texts names a b c d = rw (c, d) (grind (arith, nat_tests))

pub section_says : (width : Width) (e : Capabilities) → CanBeWritten width e → SectionSays width e (section_form width e)
section_says width e c =
    let s : List ℕ = section_form width e in
    let p : PartsAre width e (section_form width e) = parts_are width e c in
    let long = form_length width e in
    let v : List ℕ = joined e.texts in
    let w : List ℕ = joined e.names in
    let texts : AllSaid (v ++ w) 0 e.texts = all_said e.texts [] w 0 c.texts refl (omega (arith, long, c.small)) in
    let names : AllSaid (w ++ []) 0 e.names = all_said e.names [] [] 0 c.names refl (omega (arith, long, c.small)) in
    let whole_w : joined e.names ++ [] ≡ joined e.names = append-nil (joined e.names) in
    let flags : flags_said s ≡ replicate (flags_among e) true = ap (map flag_said) p.flags_are ∙ flags_back (flags_among e) in
    let numbers : numbers_said width s ≡ map Some e.numbers =
    (λ i. map (whole_said width) (numbers_in width (p.numbers_are i) (p.many_numbers i))) ∙ ap (map (whole_said width)) (numbers_back width e.numbers (all_within_fit width e.numbers c.within)) ∙ all_there width e.numbers c.within in
    let text_words : text_offsets width s ≡ starts 0 e.texts =
    (λ i. words_in (p.texts_are i) (p.many_texts i)) ∙ ap (words_in (words (starts 0 e.texts))) (sym (starts_length 0 e.texts)) ∙ words_back (starts 0 e.texts) texts.words in
    let text_values : texts_said width s ≡ map Some e.texts = (λ i. map (text_said (p.table_is i)) (text_words i)) ∙ texts.said in
    let behind : names_in_table width s ≡ joined e.names =
    (λ i. drop (length (table_of (text_values i))) (p.table_is i)) ∙ ap (λ bs. drop (length bs) (v ++ w)) (table_joined e.texts) ∙ drop_at v w (length v) refl in
    let name_words : name_offsets width s ≡ starts 0 e.names =
    (λ i. words_in (p.names_are i) (p.many_names i)) ∙ ap (words_in (words (starts 0 e.names))) (sym (starts_length 0 e.names)) ∙ words_back (starts 0 e.names) names.words in
    let name_values : names_said width s ≡ e.names =
    (λ i. map (name_said (behind i)) (name_words i)) ∙ ap (λ t. map (name_said t) (starts 0 e.names)) (sym whole_w) ∙ names.named in
    let count : flags_among e + (length e.numbers + length e.texts) ≡ length e.names = omega (arith, c.few) in
    let there : presence width s ≡ replicate (length e.names) true =
    (λ i. flags i ++ (map is_some (numbers i) ++ map is_some (text_values i)))
    ∙ (λ i. replicate (flags_among e) true ++ (all_some e.numbers i ++ all_some e.texts i))
    ∙ ap (λ bs. replicate (flags_among e) true ++ bs) (replicate-append (length e.numbers) (length e.texts))
    ∙ replicate-append (flags_among e) (length e.numbers + length e.texts) ∙ ap (λ k. replicate k true) count in
    let names_are : kept (presence width s) (names_said width s) ≡ e.names = (λ i. kept (there i) (name_values i)) ∙ kept_all (length e.names) e.names refl in
    let numbers_are : present (numbers_said width s) ≡ e.numbers = ap present numbers ∙ present_all e.numbers in
    let texts_are : present (texts_said width s) ≡ e.texts = ap present text_values ∙ present_all e.texts in
    let no_text : list_any (is_unended (table width s)) (text_offsets width s) ≡ false = (λ i. list_any (is_unended (p.table_is i)) (text_words i)) ∙ texts.ended in
    let no_name : list_any (is_unnamed (names_in_table width s)) (name_offsets width s) ≡ false =
    (λ i. list_any (is_unnamed (behind i)) (name_words i)) ∙ ap (λ t. list_any (is_unnamed t) (starts 0 e.names)) (sym whole_w) ∙ names.placed in
    record {
      capabilities = λ i. record { names = names_are i; numbers = numbers_are i; texts = texts_are i };
      sound = sound_tests (length s) (end_place width s) 0 (list_any (is_unended (table width s)) (text_offsets width s)) (list_any (is_unnamed (names_in_table width s)) (name_offsets width s)) (omega (arith, long)) p.end_is no_text no_name;
    }
