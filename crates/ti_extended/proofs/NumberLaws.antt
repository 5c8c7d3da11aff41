-- Whole numbers, and the numbers of the entry that programs see.
use Rattle.std.proofs.Common.{◌≡◌, ℕ, ◌+◌, ◌*◌, ◌-◌, ◌<◌, ◌≤◌, ◌&&◌, min, nat_lt, nat_le, cond, Bool, true, false, refl, sym, ◌∙◌, ap, arith, zero, suc, List, [], ◌∷◌, ◌++◌, length, map, take, drop, replicate, Option, Some, None}
use Rattle.std.specs.List.{flat_map, list_all, list_any, range_with_len}
use Rattle.std.proofs.lemmas.Bool.Decides.{nat_tests}
use Rattle.std.proofs.lemmas.Bool.{false≢true, or_parts}
use Rattle.std.proofs.lemmas.List.{drop_at, take_at, drop-map, take-map, length-map, length-take-le, map-append, take-append-drop}
use Rattle.byteorder.specs.Endian.{little_bytes, little_number}
use Rattle.ti_binary.specs.Canonical.{word}
use Rattle.ti_binary.specs.Files.{most_of, nth_number, number_said, numbers_in, numbers_size, padded, word_at}
use Rattle.ti_binary.specs.declared.widths.Width.{Width}
use Rattle.ti_binary.specs.declared.widths.Width.TheVariants.{Legacy, Wide}
use Rattle.ti_extended.specs.Whole.{clamped, is_small, is_small_number}
use Rattle.ti_extended.specs.Sections.{present, whole_said}
use Rattle.ti_extended.specs.Forms.{is_great, is_great_number, number_bytes, wide_number}

-- ---- what a number says, clamped

clamp_one : (most n : ℕ) → clamped (cond (nat_lt most n) None (Some n)) ≡ cond (nat_lt most n) None (Some (min n 32767))
clamp_one most n = both (nat_lt most n)
  where
    both : (b : Bool) → clamped (cond b None (Some n)) ≡ cond b None (Some (min n 32767))
    both true = refl
    both false = refl

pub clamped_said : (width : Width) (n : ℕ) → clamped (whole_said width n) ≡ number_said width n
clamped_said width n = clamp_one (most_of width) n

pub clamped_all : (width : Width) (ns : List ℕ) → map clamped (map (whole_said width) ns) ≡ map (number_said width) ns
clamped_all width [] = refl
clamped_all width (n ∷ ns) = λ i. clamped_said width n i ∷ clamped_all width ns i

pub clamped_none : (n : ℕ) → map clamped (replicate n None) ≡ replicate n None
clamped_none zero = refl
clamped_none (suc n) = ap (λ os. None ∷ os) (clamped_none n)

-- the numbers of a file, and of its entry
pub clamped_padded : (width : Width) (ns : List ℕ) → map clamped (padded 64 None (map (whole_said width) ns)) ≡ padded 64 None (map (number_said width) ns)
clamped_padded width ns =
    let whole : List (Option ℕ) = map (whole_said width) ns in
    let said : List (Option ℕ) = map (number_said width) ns in
    let same : length whole ≡ length said = length-map ns (whole_said width) ∙ sym (length-map ns (number_said width)) in
    map-append clamped whole (replicate (64 - length whole) None)
    ∙ (λ i. clamped_all width ns i ++ clamped_none (64 - length whole) i)
    ∙ ap (λ n. said ++ replicate (64 - n) None) same

-- ---- where no number is great

not_great : (o : Option ℕ) → is_great_number o ≡ false → clamped o ≡ o
not_great None h = refl
not_great (Some n) h = ap Some (grind (arith, nat_tests))

pub none_great : (os : List (Option ℕ)) → list_any is_great_number os ≡ false → map clamped os ≡ os
none_great [] h = refl
none_great (o ∷ os) h =
    let parts = or_parts (is_great_number o) (list_any is_great_number os) h in
    λ i. not_great o parts.0 i ∷ none_great os parts.1 i

said_alike : (n : ℕ) → number_said Legacy n ≡ whole_said Legacy n
said_alike n = both (nat_lt 32767 n) refl
  where
    both : (b : Bool) → nat_lt 32767 n ≡ b → cond b None (Some (min n 32767)) ≡ cond b None (Some n)
    both true h = refl
    both false h = ap Some (grind (arith, nat_tests))

pub all_said_alike : (ns : List ℕ) → map (number_said Legacy) ns ≡ map (whole_said Legacy) ns
all_said_alike [] = refl
all_said_alike (n ∷ ns) = λ i. said_alike n i ∷ all_said_alike ns i

-- ---- what is absent behind those that are there

unclamped : (o : Option ℕ) → clamped o ≡ None → o ≡ None
unclamped None h = refl
unclamped (Some n) h = absurd (cc)

pub all_absent : (os : List (Option ℕ)) (n : ℕ) → map clamped os ≡ replicate n None → os ≡ replicate n None
all_absent [] zero h = refl
all_absent [] (suc n) h = absurd (cc)
all_absent (o ∷ os) zero h = absurd (cc)
all_absent (o ∷ os) (suc n) h =
    let first : clamped o ≡ None = cc in
    let rest : map clamped os ≡ replicate n None = cc in
    λ i. unclamped o first i ∷ all_absent os n rest i

-- an entry's numbers that end with absent ones: so do the whole ones
pub padded_whole : (os : List (Option ℕ)) (xs : List (Option ℕ)) (count : ℕ) → length os ≡ 64 → count ≤ 64 → length xs ≡ count → map clamped os ≡ padded 64 None xs
    → (map clamped (take count os) ≡ xs) × (os ≡ padded 64 None (take count os))
padded_whole os xs count size le len e =
    let front : map clamped (take count os) ≡ xs = sym (take-map clamped count os) ∙ ap (take count) e ∙ take_at xs (replicate (64 - length xs) None) count len in
    let back : map clamped (drop count os) ≡ replicate (64 - length xs) None = sym (drop-map clamped count os) ∙ ap (drop count) e ∙ drop_at xs (replicate (64 - length xs) None) count len in
    let same : length xs ≡ length (take count os) = len ∙ sym (length-take-le count os (omega (arith, size, le))) in (
      front,
      sym (take-append-drop count os) ∙ ap (λ ys. take count os ++ ys) (all_absent (drop count os) (64 - length xs) back ∙ ap (λ n. replicate (64 - n) None) same),
    )

-- ---- 32-bit numbers of a section are read as they were written

range_next : {A : Type 0} (f g : ℕ → A) (a n : ℕ) → ((i : ℕ) → f (suc i) ≡ g i) → map f (range_with_len (suc a) n) ≡ map g (range_with_len a n)
range_next f g a zero e = refl
range_next f g a (suc n) e =
    let next : a + 1 ≡ suc a = omega arith in
    let before : suc a + 1 ≡ suc (suc a) = omega arith in
    ap (λ k. f (suc a) ∷ map f (range_with_len k n)) before
    ∙ ap (λ xs. f (suc a) ∷ xs) (range_next f g (suc a) n e)
    ∙ ap (λ x. x ∷ map g (range_with_len (suc a) n)) (e a)
    ∙ ap (λ k. g a ∷ map g (range_with_len k n)) (sym next)

wide_back : (n : ℕ) (rest : List ℕ) → n < 4294967296 → little_number 4 (little_bytes 4 n ++ rest) ≡ n
wide_back n rest small = omega (arith, small)

pub half_back : (n : ℕ) (rest : List ℕ) → n < 65536 → little_number 2 (word n ++ rest) ≡ n
half_back n rest small = omega (arith, small)

-- a number fits its width
abbrev pub Fits : Width → ℕ → Type 0
Fits Legacy n = n < 65536
Fits Wide n = n < 4294967296

abbrev pub AllFit : Width → List ℕ → Type 0
AllFit width [] = Unit {0}
AllFit width (n ∷ ns) = Fits width n × AllFit width ns

first_back : (width : Width) (n : ℕ) (rest : List ℕ) → Fits width n → nth_number width (number_bytes width n ++ rest) 0 ≡ n
first_back Legacy n rest small = half_back n rest small
first_back Wide n rest small = wide_back n rest small

further : (width : Width) (n i : ℕ) (rest : List ℕ) → nth_number width (number_bytes width n ++ rest) (suc i) ≡ nth_number width rest i
further Legacy n i rest =
    let offset : 2 * suc i ≡ suc (suc (2 * i)) = omega arith in
    ap (λ p. word_at (word n ++ rest) p) offset
further Wide n i rest =
    let offset : 4 * suc i ≡ suc (suc (suc (suc (4 * i)))) = omega arith in
    ap (λ p. little_number 4 (drop p (little_bytes 4 n ++ rest))) offset

pub numbers_back : (width : Width) (ns : List ℕ) → AllFit width ns → numbers_in width (flat_map (number_bytes width) ns) (length ns) ≡ ns
numbers_back width [] h = refl
numbers_back width (n ∷ ns) h =
    let bytes : List ℕ = flat_map (number_bytes width) ns in
    let rest : map (λ i. nth_number width (number_bytes width n ++ bytes) i) (range_with_len 1 (length ns)) ≡ numbers_in width bytes (length ns) =
    range_next (λ i. nth_number width (number_bytes width n ++ bytes) i) (λ i. nth_number width bytes i) 0 (length ns) (λ i. further width n i bytes) in
    λ i. first_back width n bytes h.0 i ∷ (rest ∙ numbers_back width ns h.1) i

pub numbers_length : (width : Width) (ns : List ℕ) → length (flat_map (number_bytes width) ns) ≡ numbers_size width (length ns)
numbers_length Legacy [] = refl
numbers_length Wide [] = refl
numbers_length Legacy (n ∷ ns) = omega (arith, numbers_length Legacy ns)
numbers_length Wide (n ∷ ns) = omega (arith, numbers_length Wide ns)

-- ---- the numbers of an entry in a file with 32-bit numbers

wide_said : (o : Option ℕ) → is_small_number o ≡ true → whole_said Wide (wide_number o) ≡ o
wide_said None h = refl
wide_said (Some n) h =
    let test : nat_lt 2147483647 n ≡ false = grind (arith, nat_tests) in
    ap (λ b. cond b None (Some n)) test

and_parts : (a b : Bool) → (a && b) ≡ true → (a ≡ true) × (b ≡ true)
and_parts true b h = (refl, h)
and_parts false b h = absurd (false≢true h)

pub all_wide_said : (os : List (Option ℕ)) → list_all is_small_number os ≡ true → map (whole_said Wide) (map wide_number os) ≡ os
all_wide_said [] h = refl
all_wide_said (o ∷ os) h =
    let parts = and_parts (is_small_number o) (list_all is_small_number os) h in
    λ i. wide_said o parts.0 i ∷ all_wide_said os parts.1 i

one_fits : (o : Option ℕ) → is_small_number o ≡ true → wide_number o < 4294967296
one_fits None h = omega arith
one_fits (Some n) h = grind (arith, nat_tests)

pub all_fit : (os : List (Option ℕ)) → list_all is_small_number os ≡ true → AllFit Wide (map wide_number os)
all_fit [] h = tt
all_fit (o ∷ os) h =
    let parts = and_parts (is_small_number o) (list_all is_small_number os) h in
    (one_fits o parts.0, all_fit os parts.1)

pub small_taken : (n : ℕ) (os : List (Option ℕ)) → list_all is_small_number os ≡ true → list_all is_small_number (take n os) ≡ true
small_taken zero os h = refl
small_taken (suc n) [] h = refl
small_taken (suc n) (o ∷ os) h =
    let parts = and_parts (is_small_number o) (list_all is_small_number os) h in
    ap (λ b. b && list_all is_small_number (take n os)) parts.0 ∙ small_taken n os parts.1

pub wide_bytes : (os : List (Option ℕ)) → flat_map (λ o. little_bytes 4 (wide_number o)) os ≡ flat_map (number_bytes Wide) (map wide_number os)
wide_bytes [] = refl
wide_bytes (o ∷ os) = ap (λ bs. little_bytes 4 (wide_number o) ++ bs) (wide_bytes os)

-- ---- the numbers of extended capabilities

said_there : (width : Width) (n : ℕ) → n ≤ most_of width → whole_said width n ≡ Some n
said_there width n le =
    let test : nat_lt (most_of width) n ≡ false = no_more (most_of width) n le in
    ap (λ b. cond b None (Some n)) test
  where
    no_more : (most n : ℕ) → n ≤ most → nat_lt most n ≡ false
    no_more most n le = grind (arith, nat_tests)

-- each number is at most the greatest of its width
abbrev pub AllWithin : Width → List ℕ → Type 0
AllWithin width [] = Unit {0}
AllWithin width (n ∷ ns) = (n ≤ most_of width) × AllWithin width ns

pub all_there : (width : Width) (ns : List ℕ) → AllWithin width ns → map (whole_said width) ns ≡ map Some ns
all_there width [] h = refl
all_there width (n ∷ ns) h = λ i. said_there width n h.0 i ∷ all_there width ns h.1 i

within_fits : (width : Width) (n : ℕ) → n ≤ most_of width → Fits width n
within_fits Legacy n le = omega (arith, le)
within_fits Wide n le = omega (arith, le)

pub all_within_fit : (width : Width) (ns : List ℕ) → AllWithin width ns → AllFit width ns
all_within_fit width [] h = tt
all_within_fit width (n ∷ ns) h = (within_fits width n h.0, all_within_fit width ns h.1)

pub small_within : (ns : List ℕ) → list_all is_small ns ≡ true → AllWithin Wide ns
small_within [] h = tt
small_within (n ∷ ns) h =
    let parts = and_parts (is_small n) (list_all is_small ns) h in
    let le : n ≤ 2147483647 = test n parts.0 in
    (le, small_within ns parts.1)
  where
    test : (n : ℕ) → nat_le n 2147483647 ≡ true → n ≤ 2147483647
    test n h = grind (arith, nat_tests)

pub not_great_within : (ns : List ℕ) → list_any is_great ns ≡ false → AllWithin Legacy ns
not_great_within [] h = tt
not_great_within (n ∷ ns) h =
    let parts = or_parts (is_great n) (list_any is_great ns) h in
    let le : n ≤ 32767 = test n parts.0 in
    (le, not_great_within ns parts.1)
  where
    test : (n : ℕ) → nat_lt 32767 n ≡ false → n ≤ 32767
    test n h = grind (arith, nat_tests)

pub present_all : {A : Type 0} (xs : List A) → present (map Some xs) ≡ xs
present_all [] = refl
present_all (x ∷ xs) = ap (λ ys. x ∷ ys) (present_all xs)
