-- The size of a section, and its parts one after another.
use Rattle.std.proofs.Common.{◌≡◌, ℕ, ◌+◌, ◌*◌, ◌%◌, ◌<◌, ◌≤◌, ◌∙◌, ap, arith, List, [], ◌∷◌, ◌++◌, append_assoc, length, take, get_or, length-append}
use Rattle.std.proofs.lemmas.List.Folds.{length-flat_map-take}
use Rattle.ti_binary.specs.Canonical.{words}
use Rattle.ti_binary.specs.Files.{numbers_size}
use Rattle.ti_binary.specs.declared.widths.Width.{Width}
use Rattle.ti_extended.specs.Whole.{Capabilities}
use Rattle.ti_extended.specs.Forms.{header_of, joined, section_form}
use Rattle.ti_extended.specs.Sizes.{AreSizes}
use Rattle.ti_extended.specs.declared.writing.Sizes.{Sizes}
use Rattle.ti_extended.proofs.SectionLaws.{form_length}

-- the size by the counts
abbrev pub size_by : Width → Sizes → ℕ
size_by width s = 10 + s.flags + s.flags % 2 + numbers_size width s.numbers + 2 * s.texts + 2 * s.names + s.text_bytes + s.name_bytes

pub size_small : (width : Width) (e : Capabilities) (s : Sizes) (n : ℕ) → AreSizes e s → n ≡ size_by width s → n ≤ 32768 → length (section_form width e) ≡ n
size_small width e s n a is le =
    omega (arith, form_length width e, a.flags, ap (λ k. k % 2) a.flags, a.numbers, ap (numbers_size width) a.numbers, a.texts, a.names, a.text_bytes, a.name_bytes, is)

pub size_large : (width : Width) (e : Capabilities) (s : Sizes) (n : ℕ) → AreSizes e s → n ≡ size_by width s → length (section_form width e) ≤ 32768 → n ≤ 32768
size_large width e s n a is le =
    omega (arith, form_length width e, a.flags, ap (λ k. k % 2) a.flags, a.numbers, ap (numbers_size width) a.numbers, a.texts, a.names, a.text_bytes, a.name_bytes, is)

pub names_few : (width : Width) (e : Capabilities) (s : Sizes) → AreSizes e s → length (section_form width e) ≤ 32768 → s.names ≤ 16384
names_few width e s a le = omega (arith, form_length width e, a.names)

-- the header by the sizes
pub header_is : (width : Width) (e : Capabilities) (s : Sizes) → AreSizes e s → length (section_form width e) ≤ 32768
    → words (s.flags ∷ s.numbers ∷ s.texts ∷ (s.texts + s.names) ∷ (s.text_bytes + s.name_bytes) ∷ []) ≡ words (header_of e)
header_is width e s a le =
    let t : s.text_bytes ≡ length (joined e.texts) = omega (arith, form_length width e, a.text_bytes) in
    let n : s.name_bytes ≡ length (joined e.names) = omega (arith, form_length width e, a.name_bytes) in
    λ i. words (a.flags i ∷ a.numbers i ∷ a.texts i ∷ (a.texts i + a.names i) ∷ (t i + n i) ∷ [])

pub put_all : (o0 o1 o2 o3 o4 o5 o6 o7 h f p n a b v w : List ℕ)
    → o1 ≡ o0 ++ h → o2 ≡ o1 ++ f ++ p → o3 ≡ o2 ++ n → o4 ≡ o3 ++ a → o5 ≡ o4 ++ b → o6 ≡ o5 ++ v → o7 ≡ o6 ++ w
    → o7 ≡ o0 ++ (h ++ (f ++ (p ++ (n ++ (a ++ (b ++ (v ++ w)))))))
put_all o0 o1 o2 o3 o4 o5 o6 o7 h f p n a b v w e1 e2 e3 e4 e5 e6 e7 =
    e7 ∙ ap (λ x. x ++ w) (e6 ∙ ap (λ x. x ++ v) (e5 ∙ ap (λ x. x ++ b) (e4 ∙ ap (λ x. x ++ a) (e3 ∙ ap (λ x. x ++ n) (e2 ∙ ap (λ x. x ++ f ++ p) e1)))))
    ∙ regrouped o0 h f p n a b v w
  where
    regrouped : (o h f p n a b v w : List ℕ) → ((((((o ++ h) ++ f ++ p) ++ n) ++ a) ++ b) ++ v) ++ w ≡ o ++ (h ++ (f ++ (p ++ (n ++ (a ++ (b ++ (v ++ w)))))))
    regrouped o h f p n a b v w = simp append_assoc

-- one more text in a table that is small
pub text_fits : (texts : List (List ℕ)) (i : ℕ) → i < length texts → length (joined texts) ≤ 32768 → length (joined (take i texts)) + (length (get_or texts i []) + 1) ≤ 32768
text_fits texts i lt small =
    omega (arith, small, length-flat_map-take (λ text. text ++ 0 ∷ []) texts i [] lt, length-append (get_or texts i []) (0 ∷ []))
