-- What each profile shows and has.
use Rattle.std.proofs.Common.{◌≡◌, ◌∙◌, ℕ, ◌&&◌, Bool, true, false, refl, sym, ap, subst, cond, encode_utf8, filter, arith, length, ◌<◌, ◌≤◌, List, [], ◌∷◌, bit_and, bit_or, nat_le, nat_lt}
use Rattle.std.specs.List.{AllByRecursion}
use Rattle.std.specs.Int.{bit_at}
use Rattle.std.proofs.lemmas.Nat.{and_le_l, and_le_r}
use Rattle.std.proofs.lemmas.Nat.Bits.{same_from_bits, bit_at_and, bit_at_or}
use Rattle.std.proofs.lemmas.Bool.{eqb-true, false≢true}
use Rattle.std.proofs.lemmas.Str.{encode_ascii, length-encode, len_utf8_bounds}
use Rattle.std.proofs.lemmas.Bool.Decides.{nat_tests}
use Rattle.scr_cells.specs.Attributes.{all_attributes}
use Rattle.scr_cells.specs.Characters.{CharacterLaws, IsAscii, is_beyond_ascii, is_utf8, seen_character}
use Rattle.scr_cells.specs.declared.charsets.Charset.{Charset}
use Rattle.scr_cells.specs.declared.charsets.Charset.TheVariants.{Ascii, Utf8}
use Rattle.scr_cells.specs.declared.attributes.Attrs.{Attrs}
use Rattle.scr_term.specs.declared.operations.operation.Op.TheVariants.{Move, Clear, Reset, Enter, Set, Fore, Back, Put, Write}
use Rattle.scr_term.specs.declared.operations.operation.Op.{Op}
use Rattle.scr_term.specs.declared.operations.capability.Capability.TheVariants.{Sgr0, Setaf, Setab}
use Rattle.scr_term.specs.Operations.Abilities.{AreAbilities}
use Rattle.scr_term.specs.Operations.Laws.{ProfilesHave, WritesSeen}
use Rattle.scr_term.specs.Operations.Profiles.{ProfileView, IsProfile, abilities, has_colours, is_shown, is_there, set_of, shown_set}
use Rattle.scr_term.specs.Operations.Texts.{first_piece, bytes_of, has, is_attribute, is_sendable, is_within, put_of}
use Rattle.scr_term.specs.Operations.States.{TerminalState, character_written}
use Rattle.scr_term.specs.Operations.Steps.{act}
use Rattle.scr_term.proofs.Attributes.{each_attribute}
use Rattle.scr_term.proofs.RenderingLaws.{bytes_of_one, bytes_of_written}
use Rattle.scr_term.proofs.ChoiceLaws.{and_true, both_true}
use Rattle.scr_term.proofs.ShownPenLaws.{within-or}

-- a set within a set that is within another
pub within-trans : (s t a : ℕ) → bit_and t s ≡ s → bit_and s a ≡ a → bit_and t a ≡ a
within-trans s t a hs ha = same_from_bits _ _ (λ i.
    let es : bit_at (bit_and t s) i ≡ bit_at s i = ap (λ n. bit_at n i) hs in
    let ea : bit_at (bit_and s a) i ≡ bit_at a i = ap (λ n. bit_at n i) ha in
    rw (bit_at_and t a i) (omega (arith, bit_at_and t s i, bit_at_and s a i)))

-- each attribute is one of the seven
pub attribute_is_within : (a : ℕ) → is_attribute a ≡ true → bit_and 127 a ≡ a
attribute_is_within a = each_attribute (λ x. bit_and 127 x ≡ x) refl refl refl refl refl refl refl a

one_more : (s a : ℕ) (b : Bool) (rest : List ℕ) → (b ≡ true → bit_and s a ≡ a) → bit_and s (set_of rest) ≡ set_of rest
    → bit_and s (set_of (cond b (a ∷ rest) rest)) ≡ set_of (cond b (a ∷ rest) rest)
one_more s a true rest here there = within-or s a (set_of rest) (here refl) there
one_more s a false rest here there = there

-- those of some sets that pass a test are within a set, where each of these is
filtered_within : (s : ℕ) (f : ℕ → Bool) (xs : List ℕ) → AllByRecursion (λ x. f x ≡ true → bit_and s x ≡ x) xs → bit_and s (set_of (filter f xs)) ≡ set_of (filter f xs)
filtered_within s f [] h = omega (arith, and_le_r s 0)
filtered_within s f (a ∷ xs) h = one_more s a (f a) (filter f xs) h.0 (filtered_within s f xs h.1)

attributes_within : (s : ℕ) (f : ℕ → Bool)
    → (f 1 ≡ true → bit_and s 1 ≡ 1) → (f 2 ≡ true → bit_and s 2 ≡ 2) → (f 4 ≡ true → bit_and s 4 ≡ 4) → (f 8 ≡ true → bit_and s 8 ≡ 8)
    → (f 16 ≡ true → bit_and s 16 ≡ 16) → (f 32 ≡ true → bit_and s 32 ≡ 32) → (f 64 ≡ true → bit_and s 64 ≡ 64)
    → bit_and s (set_of (filter f all_attributes)) ≡ set_of (filter f all_attributes)
attributes_within s f h1 h2 h4 h8 h16 h32 h64 = filtered_within s f all_attributes (h1, (h2, (h4, (h8, (h16, (h32, (h64, tt)))))))

-- what is shown is within the seven
pub shown_is_within : (profile : ProfileView) → bit_and 127 (shown_set profile) ≡ shown_set profile
unfolding shown_set
shown_is_within profile =
    attributes_within 127 (is_shown profile) (λ h. refl) (λ h. refl) (λ h. refl) (λ h. refl) (λ h. refl) (λ h. refl) (λ h. refl)

-- a profile has an operation whose numbers are on the screen and whose text it has
pub is_had : (profile : ProfileView) (op : Op) → has profile op ≡ true → (is_within profile op ≡ true) × (is_sendable profile (first_piece profile op) ≡ true)
unfolding has
is_had profile op h = both_true _ _ h

pub can_be_had : (profile : ProfileView) (op : Op) → is_within profile op ≡ true → is_sendable profile (first_piece profile op) ≡ true → has profile op ≡ true
unfolding has
can_be_had profile op within sendable = and_true _ _ within sendable

-- the attributes of operations that a profile has are within the seven
pub entered_is_within : (profile : ProfileView) (a : Attrs) → has profile (Enter a) ≡ true → bit_and 127 a.0 ≡ a.0
entered_is_within profile a h = attribute_is_within a.0 ((both_true _ _ ((is_had profile (Enter a) h).0)).0)

pub set_is_within : (profile : ProfileView) (a : Attrs) → has profile (Set a) ≡ true → bit_and 127 a.0 ≡ a.0
set_is_within profile a h = within-trans (shown_set profile) 127 a.0 (shown_is_within profile) (eqb-true _ _ (is_had profile (Set a) h).0)

-- a set is within what it is a part of
in_or : (a s : ℕ) → bit_and (bit_or a s) a ≡ a
in_or a s = same_from_bits _ _ (λ i. rw (bit_at_and (bit_or a s) a i, bit_at_or a s i) (omega arith))

or_keeps : (x a s : ℕ) → bit_and s a ≡ a → bit_and (bit_or x s) a ≡ a
or_keeps x a s h = same_from_bits _ _ (λ i.
    let e : bit_at (bit_and s a) i ≡ bit_at a i = ap (λ n. bit_at n i) h in
    rw (bit_at_and (bit_or x s) a i, bit_at_or x s i) (omega (arith, bit_at_and s a i)))

below_or : (b : Bool) (a : ℕ) (rest : List ℕ) → b ≡ true → bit_and (set_of (cond b (a ∷ rest) rest)) a ≡ a
below_or b a rest h = subst (λ t. bit_and (set_of (cond t (a ∷ rest) rest)) a ≡ a) (sym h) (in_or a (set_of rest))

above_or : (b : Bool) (x a : ℕ) (rest : List ℕ) → bit_and (set_of rest) a ≡ a → bit_and (set_of (cond b (x ∷ rest) rest)) a ≡ a
above_or true x a rest h = or_keeps x a (set_of rest) h
above_or false x a rest h = h

-- an attribute that passes a test is within those of the seven that pass it
passing : (f : ℕ → Bool) (a : ℕ) → is_attribute a ≡ true → f a ≡ true → bit_and (set_of (filter f all_attributes)) a ≡ a
passing f = each_attribute (λ a. f a ≡ true → bit_and (set_of (filter f all_attributes)) a ≡ a)
    (λ h. below_or (f 1) 1 _ h)
    (λ h. above_or (f 1) 1 2 _ (below_or (f 2) 2 _ h))
    (λ h. above_or (f 1) 1 4 _ (above_or (f 2) 2 4 _ (below_or (f 4) 4 _ h)))
    (λ h. above_or (f 1) 1 8 _ (above_or (f 2) 2 8 _ (above_or (f 4) 4 8 _ (below_or (f 8) 8 _ h))))
    (λ h. above_or (f 1) 1 16 _ (above_or (f 2) 2 16 _ (above_or (f 4) 4 16 _ (above_or (f 8) 8 16 _ (below_or (f 16) 16 _ h)))))
    (λ h. above_or (f 1) 1 32 _ (above_or (f 2) 2 32 _ (above_or (f 4) 4 32 _ (above_or (f 8) 8 32 _ (above_or (f 16) 16 32 _ (below_or (f 32) 32 _ h))))))
    (λ h. above_or (f 1) 1 64 _ (above_or (f 2) 2 64 _ (above_or (f 4) 4 64 _ (above_or (f 8) 8 64 _ (above_or (f 16) 16 64 _ (above_or (f 32) 32 64 _ (below_or (f 64) 64 _ h)))))))

-- an attribute within those of the seven that pass a test passes it
all_but : (s a set : ℕ) (b : Bool) → (b ≡ false → bit_and s set ≡ set) → (bit_and s a ≡ a → ⊥) → bit_and set a ≡ a → b ≡ true
all_but s a set true rest off h = refl
all_but s a set false rest off h = absurd (off (within-trans set s a (rest refl) h))

clash : (b : Bool) (P : Type 0) → b ≡ false → b ≡ true → P
clash b P f t = absurd (false≢true (sym f ∙ t))

passes : (f : ℕ → Bool) (a : ℕ) → is_attribute a ≡ true → bit_and (set_of (filter f all_attributes)) a ≡ a → f a ≡ true
passes f = each_attribute (λ a. bit_and (set_of (filter f all_attributes)) a ≡ a → f a ≡ true)
    (all_but 126 1 _ (f 1) (λ off. attributes_within 126 f (clash (f 1) _ off) (λ h. refl) (λ h. refl) (λ h. refl) (λ h. refl) (λ h. refl) (λ h. refl)) (λ h. omega (arith, h)))
    (all_but 125 2 _ (f 2) (λ off. attributes_within 125 f (λ h. refl) (clash (f 2) _ off) (λ h. refl) (λ h. refl) (λ h. refl) (λ h. refl) (λ h. refl)) (λ h. omega (arith, h)))
    (all_but 123 4 _ (f 4) (λ off. attributes_within 123 f (λ h. refl) (λ h. refl) (clash (f 4) _ off) (λ h. refl) (λ h. refl) (λ h. refl) (λ h. refl)) (λ h. omega (arith, h)))
    (all_but 119 8 _ (f 8) (λ off. attributes_within 119 f (λ h. refl) (λ h. refl) (λ h. refl) (clash (f 8) _ off) (λ h. refl) (λ h. refl) (λ h. refl)) (λ h. omega (arith, h)))
    (all_but 111 16 _ (f 16) (λ off. attributes_within 111 f (λ h. refl) (λ h. refl) (λ h. refl) (λ h. refl) (clash (f 16) _ off) (λ h. refl) (λ h. refl)) (λ h. omega (arith, h)))
    (all_but 95 32 _ (f 32) (λ off. attributes_within 95 f (λ h. refl) (λ h. refl) (λ h. refl) (λ h. refl) (λ h. refl) (clash (f 32) _ off) (λ h. refl)) (λ h. omega (arith, h)))
    (all_but 63 64 _ (f 64) (λ off. attributes_within 63 f (λ h. refl) (λ h. refl) (λ h. refl) (λ h. refl) (λ h. refl) (λ h. refl) (clash (f 64) _ off)) (λ h. omega (arith, h)))

-- an attribute of those that are shown is shown
shown_is_shown : (profile : ProfileView) (a : ℕ) → is_attribute a ≡ true → bit_and (shown_set profile) a ≡ a → is_shown profile a ≡ true
unfolding shown_set
shown_is_shown profile = passes (is_shown profile)

-- an attribute that a profile can turn on is one of those that it shows
pub entered_is_shown : (profile : ProfileView) (a : Attrs) → has profile (Enter a) ≡ true → bit_and (shown_set profile) a.0 ≡ a.0
unfolding shown_set
entered_is_shown profile a h =
    let within = both_true _ _ (is_had profile (Enter a) h).0 in
    passing (is_shown profile) a.0 within.0 within.1

-- without a reset nothing is shown
none_passes : (profile : ProfileView) (a : ℕ) (P : Type 0) → is_there profile Sgr0 ≡ false → is_shown profile a ≡ true → P
none_passes profile a P off h = clash (is_there profile Sgr0) P off ((both_true _ _ h).0)

none_is_shown : (profile : ProfileView) → is_there profile Sgr0 ≡ false → shown_set profile ≡ 0
unfolding shown_set
none_is_shown profile off =
    let set = set_of (filter (is_shown profile) all_attributes) in
    let none : bit_and 0 set ≡ set = attributes_within 0 (is_shown profile) (none_passes profile 1 _ off) (none_passes profile 2 _ off) (none_passes profile 4 _ off)
    (none_passes profile 8 _ off) (none_passes profile 16 _ off) (none_passes profile 32 _ off) (none_passes profile 64 _ off) in
    omega (arith, none, and_le_l 0 set)

colours_want_reset : (profile : ProfileView) → is_there profile Sgr0 ≡ false → has_colours profile ≡ false
unfolding has_colours
colours_want_reset profile off = none_of profile.palette (is_there profile Sgr0) _ _ _ off
  where
    none_of : (a b c d e : Bool) → b ≡ false → (a && b && c && d && e) ≡ false
    none_of a b c d e h = grind arith

-- colours are shown by texts that are there
colours_are_there : (profile : ProfileView) → has_colours profile ≡ true → (is_there profile Setaf ≡ true) × (is_there profile Setab ≡ true)
unfolding has_colours
colours_are_there profile h =
    let last = both_true _ _ h in
    ((both_true _ _ last.0).1, last.1)

pub abilities_are : (profile : ProfileView) → IsProfile profile → AreAbilities (abilities profile)
abilities_are profile p = record { size = p.size; shown = shown_is_within profile }

put_had : (profile : ProfileView) → IsProfile profile → (byte : ℕ) → IsAscii byte → has profile (Put byte) ≡ true
put_had profile p byte is = can_be_had profile (Put byte) (and_true (nat_le 32 byte) (nat_le byte 126) (grind (arith, nat_tests, is)) (grind (arith, nat_tests, is))) refl

-- what writes a character, by whether it is one of ASCII
put_of_ascii : (code : ℕ) → nat_lt code 128 ≡ true → put_of code ≡ Put code
unfolding put_of
put_of_ascii code few = ap (λ t. cond t (Put code) (Write code)) few

put_of_other : (code : ℕ) → nat_lt code 128 ≡ false → put_of code ≡ Write code
unfolding put_of
put_of_other code many = ap (λ t. cond t (Put code) (Write code)) many

seen_had : CharacterLaws → (profile : ProfileView) → IsProfile profile → WritesSeen profile
unfolding WritesSeen
seen_had characters profile p code is = by profile.charset refl
  where
    ascii : (seen : ℕ) → IsAscii seen → has profile (put_of seen) ≡ true
    ascii seen one = let few : nat_lt seen 128 ≡ true = grind (arith, nat_tests, one) in ap (has profile) (put_of_ascii seen few) ∙ put_had profile p seen one

    beyond : profile.charset ≡ Utf8 → (t : Bool) → nat_lt code 128 ≡ t → has profile (put_of code) ≡ true
    beyond utf8 true few = ascii code (characters.below code (grind (arith, nat_tests, few)) is)
    beyond utf8 false many =
        let above : is_beyond_ascii code ≡ true = characters.beyond code is (grind (arith, nat_tests, many)) in
        let written : (is_utf8 profile.charset && is_beyond_ascii code) ≡ true = and_true (is_utf8 profile.charset) (is_beyond_ascii code) (ap is_utf8 utf8) above in
        ap (has profile) (put_of_other code many) ∙ can_be_had profile (Write code) written (ap is_utf8 utf8)

    by : (charset : Charset) → profile.charset ≡ charset → has profile (put_of (seen_character profile.charset code)) ≡ true
    by Ascii e = ap (λ c. has profile (put_of (seen_character c code))) e ∙ ascii (seen_character Ascii code) (characters.seen_ascii code is)
    by Utf8 e = ap (λ c. has profile (put_of (seen_character c code))) e ∙ ap (λ n. has profile (put_of n)) (characters.seen_utf8 code) ∙ beyond e (nat_lt code 128) refl

-- ---- what writes a character

put_acts : (profile : ProfileView) (state : TerminalState) (code : ℕ) → act profile state (put_of code) ≡ character_written profile.columns state code
put_acts profile state code = by (nat_lt code 128) refl
  where
    by : (t : Bool) → nat_lt code 128 ≡ t → act profile state (put_of code) ≡ character_written profile.columns state code
    by true few = ap (act profile state) (put_of_ascii code few)
    by false many = ap (act profile state) (put_of_other code many)

put_byte : (profile : ProfileView) (byte : ℕ) → bytes_of profile (Put byte) ≡ byte ∷ []
unfolding bytes_of
put_byte profile byte = refl

put_bytes : (profile : ProfileView) (code : ℕ) → has profile (put_of code) ≡ true → bytes_of profile (put_of code) ≡ encode_utf8 code
put_bytes profile code had = by (nat_lt code 128) refl
  where
    by : (t : Bool) → nat_lt code 128 ≡ t → bytes_of profile (put_of code) ≡ encode_utf8 code
    by true few = ap (bytes_of profile) (put_of_ascii code few) ∙ put_byte profile code ∙ sym (encode_ascii code (grind (arith, nat_tests, few)))
    by false many =
        let is : has profile (Write code) ≡ true = sym (ap (has profile) (put_of_other code many)) ∙ had in
        ap (bytes_of profile) (put_of_other code many) ∙ bytes_of_written profile code is

-- the shown form of any number has a byte at least
low_some : (profile : ProfileView) (code : ℕ) → code < 128 → 1 ≤ length (bytes_of profile (put_of code))
low_some profile code few =
    let is : nat_lt code 128 ≡ true = grind (arith, nat_tests) in
    let same : length (bytes_of profile (put_of code)) ≡ 1 = ap (λ op. length (bytes_of profile op)) (put_of_ascii code is) ∙ ap length (put_byte profile code) in
    omega (arith, same)

utf8_some : (profile : ProfileView) (code : ℕ) → profile.charset ≡ Utf8 → (t : Bool) → nat_lt code 128 ≡ t → 1 ≤ length (bytes_of profile (put_of code))
utf8_some profile code utf8 true few = low_some profile code (grind (arith, nat_tests, few))
utf8_some profile code utf8 false many =
    let same : length (bytes_of profile (put_of code)) ≡ length (encode_utf8 code) =
    ap (λ op. length (bytes_of profile op)) (put_of_other code many) ∙ ap length (bytes_of_one profile (Write code) refl) ∙ ap (λ c. length (cond (is_utf8 c) (encode_utf8 code) [])) utf8 in
    omega (arith, same, length-encode code, (len_utf8_bounds code).0)

pub seen_some : CharacterLaws → (profile : ProfileView) (code : ℕ) → 1 ≤ length (bytes_of profile (put_of (seen_character profile.charset code)))
seen_some characters profile code = by profile.charset refl
  where
    by : (charset : Charset) → profile.charset ≡ charset → 1 ≤ length (bytes_of profile (put_of (seen_character profile.charset code)))
    by Ascii e = subst (λ c. 1 ≤ length (bytes_of profile (put_of (seen_character c code)))) (sym e) (low_some profile (seen_character Ascii code) (characters.low code))
    by Utf8 e = subst (λ c. 1 ≤ length (bytes_of profile (put_of (seen_character c code)))) (sym e) (subst (λ n. 1 ≤ length (bytes_of profile (put_of n))) (sym (characters.seen_utf8 code)) (utf8_some profile code e (nat_lt code 128) refl))

-- ---- all of it

pub profiles_have_hold : CharacterLaws → ProfilesHave
profiles_have_hold characters profile p = record {
  can_show = abilities_are profile p;
  move = λ r c row_in column_in. can_be_had profile (Move r c) (and_true (nat_lt r profile.rows) (nat_lt c profile.columns) (grind (arith, nat_tests)) (grind (arith, nat_tests))) p.cup;
  clear = can_be_had profile Clear refl p.clear;
  put = put_had profile p;
  seen = seen_had characters profile p;
  put_acts = put_acts profile;
  put_bytes = put_bytes profile;
  reset = λ there. can_be_had profile Reset refl there;
  enter = λ a one shown.
      let is = shown_is_shown profile a one shown in
      can_be_had profile (Enter (record { 0 = a })) (and_true _ _ one is) ((both_true _ _ is).1);
  fore = λ n few shows. can_be_had profile (Fore n) (and_true (nat_lt n 8) _ (grind (arith, nat_tests)) shows) ((colours_are_there profile shows).0);
  back = λ n few shows. can_be_had profile (Back n) (and_true (nat_lt n 8) _ (grind (arith, nat_tests)) shows) ((colours_are_there profile shows).1);
  plain_set = none_is_shown profile;
  plain_colours = colours_want_reset profile;
}
