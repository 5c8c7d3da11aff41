-- The files of whole entries.
use Rattle.std.proofs.Common.{◌≡◌, ℕ, ◌+◌, ◌%◌, ◌-◌, ◌≤◌, ◌==◌, ◌||◌, ◌&&◌, nat_le, cond, Bool, true, false, refl, sym, ◌∙◌, ap, arith, zero, suc, List, [], ◌++◌, append_assoc, length, length-append, map, drop, Option, None, subst}
use Rattle.std.specs.List.{list_all, list_any}
use Rattle.std.proofs.Math.ListN.{length-replicate}
use Rattle.std.proofs.lemmas.Bool.Decides.{nat_tests}
use Rattle.std.proofs.lemmas.Bool.{or_parts}
use Rattle.std.proofs.lemmas.List.{append-nil, drop_at, length-map, nil_from_length}
use Rattle.ti_caps.specs.Description.{Description, IsDescription}
use Rattle.ti_binary.specs.Canonical.{canonical, padding}
use Rattle.ti_binary.specs.Files.{IsFile, magic_of, number_said, numbers_in, numbers_of, numbers_place, numbers_size, padded, part, word_at}
use Rattle.ti_binary.specs.FileLaws.{FilesHaveOneEntry, LongNamesReadBack}
use Rattle.ti_binary.specs.declared.widths.Width.{Width}
use Rattle.ti_binary.specs.declared.widths.Width.TheVariants.{Legacy, Wide}
use Rattle.ti_extended.specs.Whole.{Capabilities, IsWhole, Whole, are_capabilities, are_distinct, clamped, is_extended_name, is_small, is_whole_text, no_capabilities}
use Rattle.ti_extended.specs.Sections.{capabilities_in, is_sound, is_sound_or_empty, whole_said}
use Rattle.ti_extended.specs.Forms.{aligned, front_form, has_great, is_great, is_great_number, section_form, section_of, whole_form, widened, width_of}
use Rattle.ti_extended.specs.WholeFiles.{IsWholeFile, section_after}
use Rattle.ti_extended.specs.WholeLaws.{EntriesAreClamped, FilesHaveOneWhole, PlainFormsAreCanonical, WholeFormReadsBack}
use Rattle.ti_extended.proofs.NumberLaws.{AllWithin, all_said_alike, clamped_padded, none_great, not_great_within, small_within}
use Rattle.ti_extended.proofs.PlacedLaws.{Placed, file_magic, file_placed, placed}
use Rattle.ti_extended.proofs.SectionLaws.{SectionSays, can_be_written, section_says}
use Rattle.ti_extended.proofs.TextLaws.{and_parts}
use Rattle.ti_extended.proofs.WidenedLaws.{appended, widened_file}

-- ---- one width, one whole entry

one_width : (v w : Width) → magic_of v ≡ magic_of w → v ≡ w
one_width Legacy Legacy e = refl
one_width Wide Wide e = refl
one_width Legacy Wide e = absurd (omega (arith, e))
one_width Wide Legacy e = absurd (omega (arith, e))

pub same_width : (v w : Width) (bytes rest other : List ℕ) (d e : Description) → IsFile v bytes d rest → IsFile w bytes e other → v ≡ w
same_width v w bytes rest other d e f g = one_width v w (sym (file_magic v bytes rest d f) ∙ file_magic w bytes other e g)

-- what a whole file of some width says
abbrev pub whole_by : Width → List ℕ → List ℕ → Description → Whole
whole_by width bytes rest entry = record {
  entry = entry;
  numbers = padded 64 None (map (whole_said width) (numbers_in width (part bytes (numbers_place bytes) (numbers_size width (numbers_of bytes))) (numbers_of bytes)));
  extended = capabilities_in width (section_after bytes rest);
}

is_by : (bytes : List ℕ) (w : Whole) (f : IsWholeFile bytes w) → w ≡ whole_by f.width bytes f.rest w.entry
is_by bytes w f = λ i. record { entry = w.entry; numbers = f.numbers_say i; extended = f.extended_says i }

pub record SameFile (bytes : List ℕ) (w : Whole) (width : Width) (rest : List ℕ) (entry : Description) : Type 0 where
  pub whole : w ≡ whole_by width bytes rest entry
  pub sound : is_sound_or_empty width (section_after bytes rest) ≡ true
  pub good : are_capabilities (capabilities_in width (section_after bytes rest)) ≡ true

pub same_file : FilesHaveOneEntry → (bytes rest : List ℕ) (entry : Description) (width : Width) (w : Whole) → IsFile width bytes entry rest → IsWholeFile bytes w
    → SameFile bytes w width rest entry
same_file once bytes rest entry width w file f =
    let e : f.width ≡ width = same_width f.width width bytes f.rest rest w.entry entry f.file file in
    let g : IsFile width bytes w.entry f.rest = subst (λ x. IsFile x bytes w.entry f.rest) e f.file in
    let one = once width bytes f.rest rest w.entry entry g file in
    record {
      whole = is_by bytes w f ∙ (λ i. whole_by (e i) bytes (one.1 i) (one.0 i));
      sound = (λ i. is_sound_or_empty (sym e i) (section_after bytes (sym one.1 i))) ∙ f.sound;
      good = (λ i. are_capabilities (capabilities_in (sym e i) (section_after bytes (sym one.1 i)))) ∙ ap are_capabilities (sym f.extended_says) ∙ f.are_good;
    }

pub files_have_one_whole : FilesHaveOneEntry → FilesHaveOneWhole
files_have_one_whole once bytes whole other f g =
    (same_file once bytes g.rest other.entry g.width whole g.file f).whole ∙ sym (is_by bytes other g)

-- ---- the entry's numbers are the whole ones, clamped

pub file_clamped : (width : Width) (bytes rest : List ℕ) (entry : Description) → IsFile width bytes entry rest
    → entry.numbers ≡ map clamped (padded 64 None (map (whole_said width) (numbers_in width (part bytes (numbers_place bytes) (numbers_size width (numbers_of bytes))) (numbers_of bytes))))
file_clamped width bytes rest entry f =
    let p : Placed width bytes f.header f.names f.flags f.odd f.numbers (f.offsets ++ (f.table ++ rest)) = file_placed width bytes rest entry f in
    let count : numbers_of bytes ≡ word_at f.header 6 = p.word 6 (omega arith) in
    f.numbers_say ∙ (λ i. padded 64 None (map (number_said width) (numbers_in width (sym p.numbers_are i) (sym count i))))
    ∙ sym (clamped_padded width (numbers_in width (part bytes (numbers_place bytes) (numbers_size width (numbers_of bytes))) (numbers_of bytes)))

pub entries_are_clamped : EntriesAreClamped
entries_are_clamped bytes whole f = file_clamped f.width bytes f.rest whole.entry f.file ∙ ap (map clamped) (sym f.numbers_say)

-- ---- what is written

-- a file of an entry by itself, with the whole numbers
pub record IsFront (width : Width) (bytes : List ℕ) (w : Whole) : Type 0 where
  pub file : IsFile width bytes w.entry []
  pub numbers_say : w.numbers ≡ padded 64 None (map (whole_said width) (numbers_in width (part bytes (numbers_place bytes) (numbers_size width (numbers_of bytes))) (numbers_of bytes)))
  pub short : length bytes ≤ 4352
  pub within : AllWithin width w.extended.numbers

pub size_64 : (w : Whole) → IsDescription w.entry → IsWhole w → length w.numbers ≡ 64
size_64 w d h = sym (length-map w.numbers clamped) ∙ ap length (sym h.clamps) ∙ d.numbers

legacy_front : (w : Whole) → IsDescription w.entry → IsWhole w → IsFile Legacy (canonical w.entry) w.entry [] → length (canonical w.entry) ≤ 4096 → has_great w ≡ false
    → IsFront Legacy (canonical w.entry) w
legacy_front w d h f short none =
    let bytes : List ℕ = canonical w.entry in
    let parts = or_parts (list_any is_great_number w.numbers) (list_any is_great w.extended.numbers) none in
    let same : w.numbers ≡ w.entry.numbers = sym (none_great w.numbers parts.0) ∙ sym h.clamps in
    let p : Placed Legacy (canonical w.entry) f.header f.names f.flags f.odd f.numbers (f.offsets ++ (f.table ++ [])) = file_placed Legacy (canonical w.entry) [] w.entry f in
    let count : numbers_of (canonical w.entry) ≡ word_at f.header 6 = p.word 6 (omega arith) in
    record {
      file = f;
      numbers_say =
          same ∙ f.numbers_say ∙ (λ i. padded 64 None (map (number_said Legacy) (numbers_in Legacy (sym p.numbers_are i) (sym count i))))
          ∙ ap (padded 64 None) (all_said_alike (numbers_in Legacy (part bytes (numbers_place bytes) (numbers_size Legacy (numbers_of bytes))) (numbers_of bytes)));
      short = omega (arith, short);
      within = not_great_within w.extended.numbers parts.1;
    }

wide_front : (w : Whole) → IsDescription w.entry → IsWhole w → are_capabilities w.extended ≡ true → IsFile Legacy (canonical w.entry) w.entry [] → length (canonical w.entry) ≤ 4096
    → IsFront Wide (widened w.numbers (canonical w.entry)) w
wide_front w d h good f short =
    let r = widened_file (canonical w.entry) w.entry w.numbers f short (size_64 w d h) h.clamps h.small in
    record {
      file = r.0;
      numbers_say = r.1;
      short = r.2;
      within = small_within w.extended.numbers (small_of w.extended good);
    }
  where
    small_of : (e : Capabilities) → are_capabilities e ≡ true → list_all is_small e.numbers ≡ true
    small_of e good =
        let a = and_parts (list_all is_extended_name e.names) (are_distinct e.names && (nat_le (length e.numbers + length e.texts) (length e.names) && (list_all is_small e.numbers && list_all is_whole_text e.texts))) good in
        let b = and_parts (are_distinct e.names) (nat_le (length e.numbers + length e.texts) (length e.names) && (list_all is_small e.numbers && list_all is_whole_text e.texts)) a.1 in
        let d = and_parts (nat_le (length e.numbers + length e.texts) (length e.names)) (list_all is_small e.numbers && list_all is_whole_text e.texts) b.1 in
        (and_parts (list_all is_small e.numbers) (list_all is_whole_text e.texts) d.1).0

pub is_front : (w : Whole) → LongNamesReadBack → IsDescription w.entry → IsWhole w → are_capabilities w.extended ≡ true → length (canonical w.entry) ≤ 4096
    → IsFront (width_of w) (front_form w) w
is_front w back d h good short = by_great (has_great w) refl
  where
    f : IsFile Legacy (canonical w.entry) w.entry []
    f = (back w.entry d short).0

    by_great : (b : Bool) → has_great w ≡ b → IsFront (cond b Wide Legacy) (cond b (widened w.numbers (canonical w.entry)) (canonical w.entry)) w
    by_great true e = wide_front w d h good f short
    by_great false e = legacy_front w d h f short e

-- ---- what follows

drop_nil : (n : ℕ) (xs : List ℕ) → xs ≡ [] → drop n xs ≡ []
drop_nil zero xs e = e
drop_nil (suc n) xs e = ap (drop (suc n)) e

-- the section behind a front is found there
found_by : (b : Bool) (front section : List ℕ) → (length section == 0) ≡ b
    → section_after (front ++ cond b [] (padding (length front) ++ section)) (cond b [] (padding (length front) ++ section)) ≡ section
found_by true front section h =
    let none : length section ≡ 0 = grind (arith, nat_tests) in
    drop_nil ((length (front ++ []) - 0) % 2) [] refl ∙ sym (nil_from_length section none)
found_by false front section h =
    let rest : List ℕ = padding (length front) ++ section in
    let size : length (front ++ rest) - length rest ≡ length front = omega (arith, length-append front rest) in
    ap (λ n. drop (n % 2) rest) size ∙ drop_at (padding (length front)) section (length front % 2) (length-replicate {A = ℕ} (length front % 2) 0)

found : (front section : List ℕ) → section_after (front ++ aligned (length front) section) (aligned (length front) section) ≡ section
found front section = found_by (length section == 0) front section refl

-- what the section of capabilities says
empty_says : (width : Width) → capabilities_in width [] ≡ no_capabilities
empty_says Legacy = refl
empty_says Wide = refl

record SaysSection (width : Width) (e : Capabilities) (section : List ℕ) : Type 0 where
  says : e ≡ capabilities_in width section
  sound : is_sound_or_empty width section ≡ true

none_named : (e : Capabilities) → length e.names ≡ 0 → length e.numbers + length e.texts ≤ length e.names → e ≡ no_capabilities
none_named e h few =
    let a : e.names ≡ [] = nil_from_length e.names h in
    let b : e.numbers ≡ [] = nil_from_length e.numbers (omega (arith, h, few)) in
    let c : e.texts ≡ [] = nil_from_length e.texts (omega (arith, h, few)) in
    λ i. record { names = a i; numbers = b i; texts = c i }

or_true : (a b : Bool) → b ≡ true → (a || b) ≡ true
or_true true b h = refl
or_true false b h = h

few_of : (e : Capabilities) → are_capabilities e ≡ true → length e.numbers + length e.texts ≤ length e.names
few_of e good =
    let a = and_parts (list_all is_extended_name e.names) (are_distinct e.names && (nat_le (length e.numbers + length e.texts) (length e.names) && (list_all is_small e.numbers && list_all is_whole_text e.texts))) good in
    let b = and_parts (are_distinct e.names) (nat_le (length e.numbers + length e.texts) (length e.names) && (list_all is_small e.numbers && list_all is_whole_text e.texts)) a.1 in
    le (length e.numbers + length e.texts) (length e.names) (and_parts (nat_le (length e.numbers + length e.texts) (length e.names)) (list_all is_small e.numbers && list_all is_whole_text e.texts) b.1).0
  where
    le : (m n : ℕ) → nat_le m n ≡ true → m ≤ n
    le m n h = grind (arith, nat_tests)

says_by : (b : Bool) (width : Width) (e : Capabilities) → (length e.names == 0) ≡ b → are_capabilities e ≡ true → AllWithin width e.numbers
    → length (cond b [] (section_form width e)) ≤ 32768 → SaysSection width e (cond b [] (section_form width e))
says_by true width e h good within small =
    let none : length e.names ≡ 0 = grind (arith, nat_tests) in
    record {
      says = none_named e none (few_of e good) ∙ sym (empty_says width);
      sound = refl;
    }
says_by false width e h good within small =
    let r : SectionSays width e (section_form width e) = section_says width e (can_be_written width e good within small) in
    record {
      says = sym r.capabilities;
      sound = or_true (length (section_form width e) == 0) (is_sound width (section_form width e)) r.sound;
    }

section_small : (front section : List ℕ) → length (front ++ aligned (length front) section) ≤ 32768 → length section ≤ 32768
section_small front section small = by_test (length section == 0) refl small
  where
    by_test : (b : Bool) → (length section == 0) ≡ b → length (front ++ cond b [] (padding (length front) ++ section)) ≤ 32768 → length section ≤ 32768
    by_test true h le = grind (arith, nat_tests)
    by_test false h le = omega (arith, le, length-append front (padding (length front) ++ section), length-append (padding (length front)) section)

numbers_kept : (width : Width) (bytes more : List ℕ) (entry : Description) (f : IsFile width bytes entry [])
    → numbers_in width (part bytes (numbers_place bytes) (numbers_size width (numbers_of bytes))) (numbers_of bytes)
    ≡ numbers_in width (part (bytes ++ more) (numbers_place (bytes ++ more)) (numbers_size width (numbers_of (bytes ++ more)))) (numbers_of (bytes ++ more))
numbers_kept width bytes more entry f =
    let p : Placed width bytes f.header f.names f.flags f.odd f.numbers (f.offsets ++ (f.table ++ [])) = file_placed width bytes [] entry f in
    let all : bytes ++ more ≡ f.header ++ (f.names ++ (f.flags ++ (f.odd ++ (f.numbers ++ (f.offsets ++ (f.table ++ more)))))) =
    ap (λ bs. bs ++ more) f.whole ∙ simp append_assoc in
    let q : Placed width (bytes ++ more) f.header f.names f.flags f.odd f.numbers (f.offsets ++ (f.table ++ more)) =
    placed width (bytes ++ more) f.header f.names f.flags f.odd f.numbers (f.offsets ++ (f.table ++ more)) all f.header_size f.names_size f.flag_count f.odd_size f.numbers_fit in
    let pc : numbers_of bytes ≡ word_at f.header 6 = p.word 6 (omega arith) in
    let qc : numbers_of (bytes ++ more) ≡ word_at f.header 6 = q.word 6 (omega arith) in
    (λ i. numbers_in width (p.numbers_are i) (pc i)) ∙ (λ i. numbers_in width (sym q.numbers_are i) (sym qc i))

with_section : (width : Width) (front : List ℕ) (w : Whole) → IsFront width front w → are_capabilities w.extended ≡ true
    → length (front ++ aligned (length front) (section_of width w.extended)) ≤ 32768
    → IsWholeFile (front ++ aligned (length front) (section_of width w.extended)) w
with_section width front w f good small =
    let section : List ℕ = section_of width w.extended in
    let rest : List ℕ = aligned (length front) section in
    let there : section_after (front ++ aligned (length front) section) (aligned (length front) section) ≡ section = found front section in
    let s : SaysSection width w.extended (section_of width w.extended) =
    says_by (length w.extended.names == 0) width w.extended refl good f.within (section_small front section small) in
    record {
      width = width;
      rest = rest;
      file = appended width front rest w.entry f.file small;
      numbers_say = f.numbers_say ∙ ap (λ ns. padded 64 None (map (whole_said width) ns)) (numbers_kept width front rest w.entry f.file);
      sound = ap (is_sound_or_empty width) there ∙ s.sound;
      extended_says = s.says ∙ ap (capabilities_in width) (sym there);
      are_good = good;
    }

pub whole_form_reads_back : LongNamesReadBack → FilesHaveOneEntry → WholeFormReadsBack
whole_form_reads_back back once w d h good short small =
    let is : IsWholeFile (whole_form w) w = with_section (width_of w) (front_form w) w (is_front w back d h good short) good small in
    (is, λ other f. files_have_one_whole once (whole_form w) other w f is)

-- ---- where nothing is to be added

nothing_added : (b : Bool) (numbers : List (Option ℕ)) (bytes section : List ℕ) (names : List (List ℕ)) → b ≡ false → names ≡ []
    → cond b (widened numbers bytes) bytes ++ aligned (length (cond b (widened numbers bytes) bytes)) (cond (length names == 0) [] section) ≡ bytes
nothing_added b numbers bytes section names h k = rw (h, k) (append-nil bytes)

pub plain_forms_are_canonical : PlainFormsAreCanonical
plain_forms_are_canonical w h k = nothing_added (has_great w) w.numbers (canonical w.entry) (section_form (width_of w) w.extended) w.extended.names h k
