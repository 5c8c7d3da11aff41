-- Characters, and their stand-ins.
use Rattle.std.proofs.Common.{◌≡◌, ℕ, Bool, true, false, ◌+◌, ◌-◌, ◌<◌, ◌≤◌, ◌&&◌, ◌||◌, List, [], ◌∷◌, Option, Some, None, SomeIff, get_or, length, nat_le, nat_lt, zero, suc, if◌then◌else◌, ap, subst, sym, ◌∙◌, refl, arith}
use Rattle.std.proofs.lemmas.Bool.{and_parts}
use Rattle.std.proofs.lemmas.Bool.Decides.{nat_tests}
use Rattle.std.specs.Char.{IsScalar}
use Rattle.std.specs.List.{list_all}
use Rattle.std.specs.Option.{unwrap_or}
use Rattle.scr_cells.specs.Characters.{CharacterLaws, IsAscii, IsCharacter, is_ascii, is_beyond_ascii, likeness_in, likenesses, seen_character, stand_in}
use Rattle.scr_cells.specs.declared.charsets.Charset.{Charset}
use Rattle.scr_cells.specs.declared.charsets.Charset.TheVariants.{Ascii, Utf8}

pub ascii_is_character : (code : ℕ) → IsAscii code → IsCharacter code
ascii_is_character code is = let here : is_ascii code ≡ true = grind (arith, nat_tests) in ap (λ t. t || is_beyond_ascii code) here

-- a character above ASCII is from 160 on, and no surrogate
in_ranges : (code : ℕ) (rest : Bool) → (((nat_le 160 code && nat_le code 55295) || (nat_le 57344 code && nat_le code 65535)) && rest) ≡ true → (160 ≤ code) × (code < 65536) × IsScalar code
in_ranges code rest e =
    let ranges = (and_parts ((nat_le 160 code && nat_le code 55295) || (nat_le 57344 code && nat_le code 65535)) rest e).0 in
    (grind (arith, nat_tests), grind (arith, nat_tests), grind (arith, nat_tests))

pub beyond_ascii : (code : ℕ) → is_beyond_ascii code ≡ true → (160 ≤ code) × (code < 65536) × IsScalar code
unfolding is_beyond_ascii
beyond_ascii code e = in_ranges code _ e

pub below_is_ascii : (code : ℕ) → code < 128 → IsCharacter code → IsAscii code
below_is_ascii code few is = by (is_ascii code) refl is
  where
    by : (t : Bool) → is_ascii code ≡ t → (t || is_beyond_ascii code) ≡ true → IsAscii code
    by true here e = (grind (arith, nat_tests), grind (arith, nat_tests))
    by false other e = absurd (let from : 160 ≤ code = (beyond_ascii code e).0 in let z : ⊥ = omega (arith, from, few) in z)

few_and_scalar : (code : ℕ) → IsCharacter code → (code < 65536) × IsScalar code
few_and_scalar code is = by (is_ascii code) refl is
  where
    by : (t : Bool) → is_ascii code ≡ t → (t || is_beyond_ascii code) ≡ true → (code < 65536) × IsScalar code
    by true here e = (grind (arith, nat_tests), grind (arith, nat_tests))
    by false other e = ((beyond_ascii code e).1, (beyond_ascii code e).2)

pub few_characters : (code : ℕ) → IsCharacter code → code < 65536
few_characters code is = (few_and_scalar code is).0

pub scalar_characters : (code : ℕ) → IsCharacter code → IsScalar code
scalar_characters code is = (few_and_scalar code is).1

-- what an option that has a value holds
held : (found : Option ℕ) (P : Type 0) (code other : ℕ) → P → SomeIff found P code → unwrap_or found other ≡ code
held None P code other holds none = absurd (none holds)
held (Some x) P code other holds some = some.1

-- the scalar value of the code of a character is that character
pub character_of : (found : Option ℕ) (code character : ℕ) → code ≡ character → IsCharacter character → SomeIff found (IsScalar code) code → unwrap_or found 32 ≡ character
character_of found code character same is some =
    let scalar : IsScalar code = subst IsScalar (sym same) (scalar_characters character is) in
    held found (IsScalar code) code 32 scalar some ∙ same

-- ---- stand-ins of characters

-- a byte of a text of ASCII
byte_is_ascii : (text : List ℕ) (i : ℕ) → list_all is_ascii text ≡ true → i < length text → IsAscii (get_or text i 0)
byte_is_ascii [] i all near = absurd (let z : ⊥ = omega (arith, near) in z)
byte_is_ascii (x ∷ xs) zero all near = let here = (and_parts (is_ascii x) (list_all is_ascii xs) all).0 in (grind (arith, nat_tests), grind (arith, nat_tests))
byte_is_ascii (x ∷ xs) (suc i) all near = byte_is_ascii xs i (and_parts (is_ascii x) (list_all is_ascii xs) all).1 (omega (arith, near))

likeness_is_ascii : (runs : List (ℕ × List ℕ)) (code : ℕ) → list_all (λ run. list_all is_ascii run.1) runs ≡ true → IsAscii (likeness_in runs code)
unfolding likeness_in
likeness_is_ascii [] code all = (omega arith, omega arith)
likeness_is_ascii (run ∷ runs) code all = by (nat_le run.0 code && nat_lt code (run.0 + length run.1)) refl (likeness_is_ascii runs code parts.1)
  where
    parts : (list_all is_ascii run.1 ≡ true) × (list_all (λ run. list_all is_ascii run.1) runs ≡ true)
    parts = and_parts (list_all is_ascii run.1) (list_all (λ run. list_all is_ascii run.1) runs) all

    by : (t : Bool) → (nat_le run.0 code && nat_lt code (run.0 + length run.1)) ≡ t → IsAscii (likeness_in runs code) → IsAscii (if t then get_or run.1 (code - run.0) 0 else likeness_in runs code)
    by true inside later = byte_is_ascii run.1 (code - run.0) parts.0 (grind (arith, nat_tests))
    by false outside later = later

pub stand_in_is_ascii : (code : ℕ) → IsCharacter code → IsAscii (stand_in code)
unfolding stand_in likenesses
stand_in_is_ascii code is = by (nat_lt code 128) refl
  where
    by : (t : Bool) → nat_lt code 128 ≡ t → IsAscii (if t then code else likeness_in likenesses code)
    by true few = below_is_ascii code (grind (arith, nat_tests)) is
    by false many = likeness_is_ascii likenesses code refl

pub stands_for_itself : (code : ℕ) → code < 128 → stand_in code ≡ code
unfolding stand_in
stands_for_itself code few = let here : nat_lt code 128 ≡ true = grind (arith, nat_tests) in ap (λ t. if t then code else likeness_in likenesses code) here

-- ---- their shown forms

pub seen_characters : (charset : Charset) (code : ℕ) → IsCharacter code → IsCharacter (seen_character charset code)
unfolding seen_character
seen_characters Ascii code is = ascii_is_character (stand_in code) (stand_in_is_ascii code is)
seen_characters Utf8 code is = is

pub seen_as_itself : (charset : Charset) (code : ℕ) → code < 128 → seen_character charset code ≡ code
unfolding seen_character
seen_as_itself Ascii code few = stands_for_itself code few
seen_as_itself Utf8 code few = refl

pub seen_in_utf8 : (code : ℕ) → seen_character Utf8 code ≡ code
unfolding seen_character
seen_in_utf8 code = refl

pub seen_in_ascii : (code : ℕ) → IsCharacter code → IsAscii (seen_character Ascii code)
unfolding seen_character
seen_in_ascii code is = stand_in_is_ascii code is

pub from_128 : (code : ℕ) → IsCharacter code → 128 ≤ code → is_beyond_ascii code ≡ true
from_128 code is many = by (is_ascii code) refl is
  where
    by : (t : Bool) → is_ascii code ≡ t → (t || is_beyond_ascii code) ≡ true → is_beyond_ascii code ≡ true
    by true here e = absurd (let few : code ≤ 126 = grind (arith, nat_tests) in let z : ⊥ = omega (arith, few, many) in z)
    by false other e = e

low_stand_in : (code : ℕ) → stand_in code < 128
unfolding stand_in likenesses
low_stand_in code = by (nat_lt code 128) refl
  where
    by : (t : Bool) → nat_lt code 128 ≡ t → (if t then code else likeness_in likenesses code) < 128
    by true few = grind (arith, nat_tests)
    by false many = let is = likeness_is_ascii likenesses code refl in omega (arith, is.1)

low_seen : (code : ℕ) → seen_character Ascii code < 128
unfolding seen_character
low_seen code = low_stand_in code

pub the_laws : CharacterLaws
the_laws = record {
  ascii = ascii_is_character;
  below = below_is_ascii;
  scalar = scalar_characters;
  few = few_characters;
  stand_in = stand_in_is_ascii;
  itself = stands_for_itself;
  low = low_seen;
  seen = seen_characters;
  seen_itself = seen_as_itself;
  seen_ascii = seen_in_ascii;
  seen_utf8 = seen_in_utf8;
  beyond = from_128;
}
