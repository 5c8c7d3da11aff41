-- Reading the section of extended capabilities, and the file before it.
use Rattle.std.proofs.Common.{◌≡◌, ℕ, ◌+◌, ◌*◌, ◌-◌, ◌≤◌, ◌==◌, ◌||◌, ◌&&◌, ◌⊎◌, inl, inr, not, nat_le, Bool, true, false, refl, sym, ◌∙◌, ap, arith, List, [], ◌++◌, append_assoc, length, length-append, map, drop, replicate, Option, None, is_some, Result, Ok, Err, OnOk, OnErr, IfErr}
use Rattle.std.specs.List.{list_all, list_any}
use Rattle.std.proofs.lemmas.Bool.{false≢true}
use Rattle.std.proofs.lemmas.Bool.Decides.{nat_tests}
use Rattle.std.proofs.lemmas.List.{length-map}
use Rattle.std.proofs.lemmas.List.FromFn.{length-map-range_with_len}
use Rattle.ti_caps.specs.Description.{Description}
use Rattle.ti_binary.specs.Files.{IsFile, Reads, flag_said, is_unended, nth_number, numbers_in, numbers_of, numbers_place as place_of, numbers_size, padded, part, text_said, word_at, words_in}
use Rattle.ti_binary.specs.FileLaws.{FilesHaveOneEntry}
use Rattle.ti_binary.specs.declared.widths.Width.{Width}
use Rattle.ti_extended.specs.Whole.{Capabilities, IsWhole, Whole, are_capabilities, clamped, is_small_number}
use Rattle.ti_extended.specs.Sections.{capabilities_in, end_place, flag_count, is_sound, is_sound_or_empty, is_unnamed, kept, name_count, name_offsets, name_said, name_table, names_in_table, names_place, names_said, number_count, numbers_place, numbers_said, presence, present, table, text_count, text_offsets, texts_place, texts_said, whole_said}
use Rattle.ti_extended.specs.WholeFiles.{IsWholeFile, section_after}
use Rattle.ti_extended.specs.declared.faults.WholeFault.{WholeFault}
use Rattle.ti_extended.specs.declared.faults.WholeFault.TheVariants.{NoMemory}
use Rattle.ti_extended.proofs.PlacedLaws.{file_rest}
use Rattle.ti_extended.proofs.WholeFileLaws.{SameFile, file_clamped, same_file}

-- ---- which names are kept

pub there_is : (a b c d : List Bool) (flags numbers texts : List Bool) → a ≡ [] → b ≡ a ++ flags → c ≡ b ++ numbers → d ≡ c ++ texts → d ≡ flags ++ (numbers ++ texts)
there_is a b c d flags numbers texts e f g h =
    h ∙ ap (λ x. x ++ texts) (g ∙ ap (λ x. x ++ numbers) (f ∙ ap (λ x. x ++ flags) e)) ∙ append_assoc flags numbers texts

pub there_length : (there flags numbers texts : List Bool) (count : ℕ) → there ≡ flags ++ (numbers ++ texts) → length flags + length numbers + length texts ≡ count → length there ≡ count
there_length there flags numbers texts count e n = omega (arith, ap length e, length-append flags (numbers ++ texts), length-append numbers texts)

pub words_length_in : {A : Type 0} (g : ℕ → A) (section : List ℕ) (count : ℕ) → length (map g (words_in section count)) ≡ count
words_length_in g section count = length-map (words_in section count) g ∙ length-map-range_with_len (λ i. word_at section (2 * i)) 0 count

pub numbers_length_in : {A : Type 0} (g : ℕ → A) (width : Width) (section : List ℕ) (count : ℕ) → length (map g (numbers_in width section count)) ≡ count
numbers_length_in g width section count = length-map (numbers_in width section count) g ∙ length-map-range_with_len (λ i. nth_number width section i) 0 count

-- ---- whether a section is sound

either_false : (a b : Bool) → a ≡ false → b ≡ false → (a || b) ≡ false
either_false a b h k = rw (h, k) refl

unsound_tests : (none : Bool) (header room texts names : Bool) → none ≡ false → (texts ≡ true) ⊎ (names ≡ true) → (none || (header && (room && (not texts && not names)))) ≡ false
unsound_tests false true true true names h (inl k) = refl
unsound_tests false true true false names h (inl k) = absurd (false≢true k)
unsound_tests false true true true true h (inr k) = refl
unsound_tests false true true false true h (inr k) = refl
unsound_tests false true true true false h (inr k) = refl
unsound_tests false true true false false h (inr k) = absurd (false≢true k)
unsound_tests false true false texts names h k = refl
unsound_tests false false room texts names h k = refl
unsound_tests true header room texts names h k = absurd (false≢true (sym h))

pub unsound : (width : Width) (section : List ℕ) → (length section == 0) ≡ false
    → (list_any (is_unended (table width section)) (text_offsets width section) ≡ true) ⊎ (list_any (is_unnamed (names_in_table width section)) (name_offsets width section) ≡ true)
    → is_sound_or_empty width section ≡ false
unsound width section h k =
    unsound_tests (length section == 0) (nat_le 10 (length section)) (end_place width section == length section)
    (list_any (is_unended (table width section)) (text_offsets width section)) (list_any (is_unnamed (names_in_table width section)) (name_offsets width section)) h k

unsound_room : (none sound : Bool) → none ≡ false → sound ≡ false → (none || sound) ≡ false
unsound_room none sound h k = rw (h, k) refl

pub no_room : (width : Width) (section : List ℕ) → (length section == 0) ≡ false → is_sound width section ≡ false → is_sound_or_empty width section ≡ false
no_room width section h k = unsound_room (length section == 0) (is_sound width section) h k

sound_tests : (none : Bool) (n end : ℕ) (texts names : Bool) → 10 ≤ n → end ≡ n → texts ≡ false → names ≡ false → (none || (nat_le 10 n && (end == n && (not texts && not names)))) ≡ true
sound_tests true n end texts names a b c d = refl
sound_tests false n end texts names a b c d = rw (c, d) (tests n end a b)
  where
    tests : (n end : ℕ) → 10 ≤ n → end ≡ n → (nat_le 10 n && (end == n && true)) ≡ true
    tests n end a b = grind (arith, nat_tests)

pub sound : (width : Width) (section : List ℕ) → 10 ≤ length section → end_place width section ≡ length section
    → list_any (is_unended (table width section)) (text_offsets width section) ≡ false → list_any (is_unnamed (names_in_table width section)) (name_offsets width section) ≡ false
    → is_sound_or_empty width section ≡ true
sound width section a b c d =
    sound_tests (length section == 0) (length section) (end_place width section)
    (list_any (is_unended (table width section)) (text_offsets width section)) (list_any (is_unnamed (names_in_table width section)) (name_offsets width section)) a b c d

pub on_ok_from : {A E : Type 0} {P : Type 0} (r : Result A E) → P → OnOk r P
on_ok_from (Ok x) p = p
on_ok_from (Err e) p = tt

-- capabilities that are not good
pub not_good : {A : Type 0} (Q : Type 0) (r : Result A WholeFault) (found said : Capabilities) → OnErr r (are_capabilities found ≡ false) → found ≡ said
    → IfErr r (λ f. (f ≡ NoMemory) ⊎ (Q ⊎ (are_capabilities said ≡ false)))
not_good Q (Ok x) found said h e = tt
not_good Q (Err f) found said h e = inr (inr (ap are_capabilities (sym e) ∙ h))

-- the parts of a section
pub names_err : (width : Width) (section tab texts names : List ℕ) (tc nc : ℕ)
    → tab ≡ table width section → texts ≡ part section (texts_place width section) (2 * text_count section) → names ≡ part section (names_place width section) (2 * name_count section)
    → tc ≡ text_count section → nc ≡ name_count section
    → (list_any (is_unended tab) (words_in texts tc) ≡ true) ⊎ (list_any (is_unnamed (name_table tab (map (text_said tab) (words_in texts tc)))) (words_in names nc) ≡ true)
    → (list_any (is_unended (table width section)) (text_offsets width section) ≡ true) ⊎ (list_any (is_unnamed (names_in_table width section)) (name_offsets width section) ≡ true)
names_err width section tab texts names tc nc t x n a b (inl h) = inl ((λ i. list_any (is_unended (sym t i)) (words_in (sym x i) (sym a i))) ∙ h)
names_err width section tab texts names tc nc t x n a b (inr h) =
    inr ((λ i. list_any (is_unnamed (name_table (sym t i) (map (text_said (sym t i)) (words_in (sym x i) (sym a i))))) (words_in (sym n i) (sym b i))) ∙ h)

pub names_sound : (width : Width) (section tab texts names here : List ℕ) (tc nc : ℕ)
    → tab ≡ table width section → texts ≡ part section (texts_place width section) (2 * text_count section) → names ≡ part section (names_place width section) (2 * name_count section)
    → tc ≡ text_count section → nc ≡ name_count section
    → here ≡ name_table tab (map (text_said tab) (words_in texts tc))
    → list_any (is_unended tab) (words_in texts tc) ≡ false → list_any (is_unnamed here) (words_in names nc) ≡ false
    → (list_any (is_unended (table width section)) (text_offsets width section) ≡ false) × (list_any (is_unnamed (names_in_table width section)) (name_offsets width section) ≡ false)
names_sound width section tab texts names here tc nc t x n a b e h k =
    let there : here ≡ names_in_table width section = e ∙ (λ i. name_table (t i) (map (text_said (t i)) (words_in (x i) (a i)))) in (
      (λ i. list_any (is_unended (sym t i)) (words_in (sym x i) (sym a i))) ∙ h,
      (λ i. list_any (is_unnamed (sym there i)) (words_in (sym n i) (sym b i))) ∙ k,
    )

pub found_is : (width : Width) (section flags numbers texts names tab here : List ℕ) (kc tc nc : ℕ) (out : Capabilities)
    → flags ≡ part section 10 (flag_count section) → numbers ≡ part section (numbers_place section) (numbers_size width (number_count section))
    → texts ≡ part section (texts_place width section) (2 * text_count section) → names ≡ part section (names_place width section) (2 * name_count section) → tab ≡ table width section
    → kc ≡ number_count section → tc ≡ text_count section → nc ≡ name_count section → here ≡ name_table tab (map (text_said tab) (words_in texts tc))
    → out.names ≡ kept (map flag_said flags ++ (map is_some (map (whole_said width) (numbers_in width numbers kc)) ++ map is_some (map (text_said tab) (words_in texts tc)))) (map (name_said here) (words_in names nc))
    → out.numbers ≡ present (map (whole_said width) (numbers_in width numbers kc)) → out.texts ≡ present (map (text_said tab) (words_in texts tc))
    → out ≡ capabilities_in width section
found_is width section flags numbers texts names tab here kc tc nc out f k x n t a b d e on ok ot =
    let there : here ≡ names_in_table width section = e ∙ (λ i. name_table (t i) (map (text_said (t i)) (words_in (x i) (b i)))) in
    let names_are : out.names ≡ kept (presence width section) (names_said width section) =
    on ∙ (λ i. kept (map flag_said (f i) ++ (map is_some (map (whole_said width) (numbers_in width (k i) (a i))) ++ map is_some (map (text_said (t i)) (words_in (x i) (b i))))) (map (name_said (there i)) (words_in (n i) (d i)))) in
    let numbers_are : out.numbers ≡ present (numbers_said width section) = ok ∙ (λ i. present (map (whole_said width) (numbers_in width (k i) (a i)))) in
    let texts_are : out.texts ≡ present (texts_said width section) = ot ∙ (λ i. present (map (text_said (t i)) (words_in (x i) (b i)))) in
    λ i. record { names = names_are i; numbers = numbers_are i; texts = texts_are i }

-- ---- the whole numbers

pub padded_read : (width : Width) (bytes section : List ℕ) (count : ℕ) (a b c : List (Option ℕ)) → a ≡ [] → b ≡ a ++ map (whole_said width) (numbers_in width section count)
    → c ≡ b ++ replicate (64 - count) None → section ≡ part bytes (place_of bytes) (numbers_size width (numbers_of bytes)) → count ≡ numbers_of bytes
    → c ≡ padded 64 None (map (whole_said width) (numbers_in width (part bytes (place_of bytes) (numbers_size width (numbers_of bytes))) (numbers_of bytes)))
padded_read width bytes section count a b c none more absent is many =
    let said : List (Option ℕ) = map (whole_said width) (numbers_in width section count) in
    let long : count ≡ length said = sym (numbers_length_in (whole_said width) width section count) in
    let all : b ≡ said = more ∙ ap (λ x. x ++ said) none in
    absent ∙ (λ i. all i ++ replicate (64 - long i) None) ∙ (λ i. padded 64 None (map (whole_said width) (numbers_in width (is i) (many i))))

-- ---- the file before the section

pub section_is : (width : Width) (bytes : List ℕ) (entry : Description) (skipped : ℕ) (r : Reads width bytes entry skipped) (section : List ℕ)
    → section ≡ section_after bytes (drop (length bytes - skipped) bytes) → section ≡ section_after bytes r.0
section_is width bytes entry skipped r section e =
    let last = file_rest width bytes r.0 entry r.1 in
    e ∙ ap (section_after bytes) (ap (λ n. drop (length bytes - n) bytes) r.2 ∙ last.1)

pub no_whole : (bytes : List ℕ) → ((width : Width) (d : Description) (rest : List ℕ) → IsFile width bytes d rest → ⊥) → (w : Whole) → IsWholeFile bytes w → ⊥
no_whole bytes h w f = h f.width w.entry f.rest f.file

pub no_section : FilesHaveOneEntry → (width : Width) (bytes : List ℕ) (entry : Description) (skipped : ℕ) (r : Reads width bytes entry skipped) (section : List ℕ)
    → section ≡ section_after bytes (drop (length bytes - skipped) bytes)
    → (is_sound_or_empty width section ≡ false) ⊎ (are_capabilities (capabilities_in width section) ≡ false) → (w : Whole) → IsWholeFile bytes w → ⊥
no_section once width bytes entry skipped r section e (inl h) w f =
    let s : SameFile bytes w width r.0 entry = same_file once bytes r.0 entry width w r.1 f in
    false≢true (sym h ∙ ap (is_sound_or_empty width) (section_is width bytes entry skipped r section e) ∙ s.sound)
no_section once width bytes entry skipped r section e (inr h) w f =
    let s : SameFile bytes w width r.0 entry = same_file once bytes r.0 entry width w r.1 f in
    false≢true (sym h ∙ ap (λ x. are_capabilities (capabilities_in width x)) (section_is width bytes entry skipped r section e) ∙ s.good)

pub err_standard : (bytes : List ℕ) (f : WholeFault) → (f ≡ NoMemory) ⊎ ((width : Width) (d : Description) (rest : List ℕ) → IsFile width bytes d rest → ⊥)
    → (f ≡ NoMemory) ⊎ ((w : Whole) → IsWholeFile bytes w → ⊥)
err_standard bytes f (inl h) = inl h
err_standard bytes f (inr h) = inr (no_whole bytes h)

pub err_section : FilesHaveOneEntry → (width : Width) (bytes : List ℕ) (entry : Description) (skipped : ℕ) (r : Reads width bytes entry skipped) (section : List ℕ) (f : WholeFault)
    → section ≡ section_after bytes (drop (length bytes - skipped) bytes)
    → (f ≡ NoMemory) ⊎ ((is_sound_or_empty width section ≡ false) ⊎ (are_capabilities (capabilities_in width section) ≡ false)) → (f ≡ NoMemory) ⊎ ((w : Whole) → IsWholeFile bytes w → ⊥)
err_section once width bytes entry skipped r section f e (inl h) = inl h
err_section once width bytes entry skipped r section f e (inr h) = inr (no_section once width bytes entry skipped r section e h)

abbrev pub numbers_by : Width → List ℕ → List (Option ℕ)
numbers_by width bytes = padded 64 None (map (whole_said width) (numbers_in width (part bytes (place_of bytes) (numbers_size width (numbers_of bytes))) (numbers_of bytes)))

pub whole_read : (width : Width) (bytes : List ℕ) (entry : Description) (skipped : ℕ) (r : Reads width bytes entry skipped) (numbers : List (Option ℕ)) (e : Capabilities)
    → numbers ≡ numbers_by width bytes → list_all is_small_number numbers ≡ true → IsWhole (record { entry = entry; numbers = numbers; extended = e })
whole_read width bytes entry skipped r numbers e said small = record {
  clamps = file_clamped width bytes r.0 entry r.1 ∙ ap (map clamped) (sym said);
  small = small;
}

pub file_read : (width : Width) (bytes : List ℕ) (entry : Description) (skipped : ℕ) (r : Reads width bytes entry skipped) (section : List ℕ) (numbers : List (Option ℕ)) (e : Capabilities)
    → section ≡ section_after bytes (drop (length bytes - skipped) bytes) → numbers ≡ numbers_by width bytes
    → e ≡ capabilities_in width section → is_sound_or_empty width section ≡ true → are_capabilities e ≡ true
    → IsWholeFile bytes (record { entry = entry; numbers = numbers; extended = e })
file_read width bytes entry skipped r section numbers e at said says good all =
    let there : section ≡ section_after bytes r.0 = section_is width bytes entry skipped r section at in
    record {
      width = width;
      rest = r.0;
      file = r.1;
      numbers_say = said;
      sound = ap (is_sound_or_empty width) (sym there) ∙ good;
      extended_says = says ∙ ap (capabilities_in width) there;
      are_good = all;
    }
