-- The table of well-formed sequences of UTF-8 (The Unicode Standard, table 3-7), and what a reader of texts says by it.
use Rattle.std.proofs.Common.{◌≡◌, ◌∙◌, ℕ, ◌+◌, ◌-◌, ◌*◌, ◌/◌, ◌<◌, ◌≤◌, ◌⊎◌, inl, inr, ⊎_elim, Bool, true, false, refl, ap, sym, subst, subst₂, arith, length, take, take_at, drop, List, [], ◌∷◌, ◌++◌, Option, Some, None, is_some, if◌then◌else◌}
use lib.Utf8.{encode, low_scalar, next, scalar, scalar_cases}
use Rattle.std.specs.Int.{is_in_range}
use Rattle.std.specs.Str.{IsUtf8, IsValidUpTo}
use Rattle.std.specs.Str.Lossy.{error_len_of_some, second_byte_max, second_byte_min, utf8_error_len}
use Rattle.std.proofs.lemmas.Bool.Decides.{nat_tests}
use Rattle.std.proofs.lemmas.Str.{IsUtf8-encode, len_utf8_bounds, length-encode}
use Rattle.std.proofs.str.Digits.{high_scalar}
use Rattle.std.proofs.str.Laws.{Follows, four, order, three, two}
use Rattle.std.proofs.str.Lossy.{utf8_error_len_some}
use Rattle.scr_keys.specs.Code.Sequences.{BeginNone, IsNext}
use Rattle.scr_keys.specs.Typing.{IsBegun, IsMultibyte}
use Rattle.scr_keys.proofs.SequenceLaws.{lead, next_long, none_valid}

-- ---- the characters of the table's rows

record IsSecond (x y : ℕ) : Type 0 where
  least : 128 ≤ y
  most : y < 192
  after_224 : x ≡ 224 → 160 ≤ y
  after_237 : x ≡ 237 → y < 160
  after_240 : x ≡ 240 → 144 ≤ y
  after_244 : x ≡ 244 → y < 144

record Made (bytes : List ℕ) : Type 0 where
  character : ℕ
  multibyte : IsMultibyte character
  sequence : encode character ≡ bytes

made_two : (x y : ℕ) → 194 ≤ x → x < 224 → 128 ≤ y → y < 192 → Made (x ∷ y ∷ [])
made_two x y low high least most =
    let c = (x - 192) * 64 + (y - 128) in
    let p : x ≡ 192 + c / 64 = omega arith in
    let q : y ≡ next c = omega arith in
    record { character = c; multibyte = record { scalar = low_scalar c (omega arith); beyond = omega arith }; sequence = two c (omega arith) (omega arith) ∙ (λ k. sym p k ∷ sym q k ∷ []) }

in_range : (c : ℕ) → c < 1114112 → (c < 55296) ⊎ (57344 ≤ c) → scalar c ≡ true
in_range c few (inl low) = low_scalar c low
in_range c few (inr high) = high_scalar c (omega arith) high few

made_three : (x y z : ℕ) → 224 ≤ x → x < 240 → IsSecond x y → 128 ≤ z → z < 192 → Made (x ∷ y ∷ z ∷ [])
made_three x y z low high second least most =
    let c = (x - 224) * 4096 + (y - 128) * 64 + (z - 128) in
    let p : x ≡ 224 + c / 4096 = omega arith in
    let q : y ≡ next (c / 64) = omega arith in
    let r : z ≡ next c = omega arith in
    let more : 2048 ≤ c = ⊎_elim (λ (few : x < 225). let l : 160 ≤ y = second.after_224 (omega arith) in omega arith) (λ (many : 225 ≤ x). omega arith) (order x 225) in
    let none : (c < 55296) ⊎ (57344 ≤ c) =
    ⊎_elim (λ (few : x < 237). inl (omega arith)) (λ (many : 237 ≤ x). ⊎_elim (λ (few : x < 238). let l : y < 160 = second.after_237 (omega arith) in inl (omega arith)) (λ (most : 238 ≤ x). inr (omega arith)) (order x 238)) (order x 237) in
    record { character = c; multibyte = record { scalar = in_range c (omega arith) none; beyond = omega arith }; sequence = three c more (omega arith) ∙ (λ k. sym p k ∷ sym q k ∷ sym r k ∷ []) }

made_four : (x y z w : ℕ) → 240 ≤ x → x ≤ 244 → IsSecond x y → 128 ≤ z → z < 192 → 128 ≤ w → w < 192 → Made (x ∷ y ∷ z ∷ w ∷ [])
made_four x y z w low high second least most least' most' =
    let c = (x - 240) * 262144 + (y - 128) * 4096 + (z - 128) * 64 + (w - 128) in
    let p : x ≡ 240 + c / 262144 = omega arith in
    let q : y ≡ next (c / 4096) = omega arith in
    let e : c / 64 ≡ (x - 240) * 4096 + (y - 128) * 64 + (z - 128) = omega arith in
    let r : z ≡ next (c / 64) = subst (λ (m : ℕ). z ≡ next m) (sym e) (omega arith) in
    let t : w ≡ next c = omega arith in
    let more : 65536 ≤ c = ⊎_elim (λ (few : x < 241). let l : 144 ≤ y = second.after_240 (omega arith) in omega arith) (λ (many : 241 ≤ x). omega arith) (order x 241) in
    let few : c < 1114112 = ⊎_elim (λ (less : x < 244). omega arith) (λ (many : 244 ≤ x). let l : y < 144 = second.after_244 (omega arith) in omega arith) (order x 244) in
    record { character = c; multibyte = record { scalar = high_scalar c (omega arith) (omega arith) few; beyond = omega arith }; sequence = four c more ∙ (λ k. sym p k ∷ sym q k ∷ sym r k ∷ sym t k ∷ []) }

-- ---- where no character begins, and the bytes are not at fault, they begin one

some_none : {A : Type 0} (a : A) → Some a ≡ None → ⊥
some_none a e = (cc)

taken : {A : Type 0} (t : Bool) (o : Option A) (a : A) → (if t then o else Some a) ≡ None → (t ≡ true) × (o ≡ None)
taken true o a is = (refl, is)
taken false o a is = absurd (some_none a is)

second_is : (x y : ℕ) → is_in_range (second_byte_min x) (second_byte_max x) y ≡ true → IsSecond x y
second_is x y test = record {
  least = grind (arith, nat_tests);
  most = grind (arith, nat_tests);
  after_224 = λ is. grind (arith, nat_tests);
  after_237 = λ is. grind (arith, nat_tests);
  after_240 = λ is. grind (arith, nat_tests);
  after_244 = λ is. grind (arith, nat_tests);
}

low_from : (lo hi x : ℕ) → is_in_range lo hi x ≡ true → lo ≤ x
low_from lo hi x test = grind (arith, nat_tests)

high_from : (lo hi x : ℕ) → is_in_range lo hi x ≡ true → x ≤ hi
high_from lo hi x test = grind (arith, nat_tests)

text_of : (bytes : List ℕ) → Made bytes → IsUtf8 bytes
text_of bytes made = subst IsUtf8 made.sequence (IsUtf8-encode made.character made.multibyte.scalar)

begun_by : (bytes rest : List ℕ) → Made (bytes ++ rest) → 0 < length bytes → 0 < length rest → IsBegun bytes
begun_by bytes rest made some more = record {
  character = made.character;
  rest = rest;
  multibyte = made.multibyte;
  sequence = sym made.sequence;
  some = λ e. absurd (omega (arith, ap length e));
  more = λ e. absurd (omega (arith, ap length e));
}

-- a byte that may follow a first byte
middle : (x : ℕ) → IsSecond x (second_byte_min x)
middle x = record {
  least = grind (arith, nat_tests);
  most = grind (arith, nat_tests);
  after_224 = λ is. grind (arith, nat_tests);
  after_237 = λ is. grind (arith, nat_tests);
  after_240 = λ is. grind (arith, nat_tests);
  after_244 = λ is. grind (arith, nat_tests);
}

pub begun_one : (x : ℕ) → 194 ≤ x → x ≤ 244 → IsBegun (x ∷ [])
begun_one x low high = by (order x 224) (order x 240)
  where
    by : (x < 224) ⊎ (224 ≤ x) → (x < 240) ⊎ (240 ≤ x) → IsBegun (x ∷ [])
    by (inl few) _ = begun_by (x ∷ []) (128 ∷ []) (made_two x 128 low few (omega arith) (omega arith)) (omega arith) (omega arith)
    by (inr many) (inl few) = begun_by (x ∷ []) (second_byte_min x ∷ 128 ∷ []) (made_three x (second_byte_min x) 128 many few (middle x) (omega arith) (omega arith)) (omega arith) (omega arith)
    by (inr some) (inr many) =
        begun_by (x ∷ []) (second_byte_min x ∷ 128 ∷ 128 ∷ []) (made_four x (second_byte_min x) 128 128 many high (middle x) (omega arith) (omega arith) (omega arith) (omega arith)) (omega arith) (omega arith)

begun_two : (x y : ℕ) → 224 ≤ x → x ≤ 244 → IsSecond x y → IsBegun (x ∷ y ∷ [])
begun_two x y low high second = by (order x 240)
  where
    by : (x < 240) ⊎ (240 ≤ x) → IsBegun (x ∷ y ∷ [])
    by (inl few) = begun_by (x ∷ y ∷ []) (128 ∷ []) (made_three x y 128 low few second (omega arith) (omega arith)) (omega arith) (omega arith)
    by (inr many) = begun_by (x ∷ y ∷ []) (128 ∷ 128 ∷ []) (made_four x y 128 128 many high second (omega arith) (omega arith) (omega arith) (omega arith)) (omega arith) (omega arith)

begun_three : (x y z : ℕ) → 240 ≤ x → x ≤ 244 → IsSecond x y → 128 ≤ z → z < 192 → IsBegun (x ∷ y ∷ z ∷ [])
begun_three x y z low high second least most =
    begun_by (x ∷ y ∷ z ∷ []) (128 ∷ []) (made_four x y z 128 low high second least most (omega arith) (omega arith)) (omega arith) (omega arith)

begun_of : (bytes : List ℕ) → 0 < length bytes → ((m : ℕ) → 0 < m → ¬ (IsUtf8 (take m bytes))) → error_len_of_some bytes ≡ None → IsBegun bytes
begun_of [] some invalid is = absurd (omega arith)
begun_of (x ∷ []) some invalid is =
    let first = taken (is_in_range 194 244 x) None 1 is in
    begun_one x (low_from 194 244 x first.0) (high_from 194 244 x first.0)
begun_of (x ∷ y ∷ []) some invalid is =
    let first = taken (is_in_range 194 244 x) (if is_in_range (second_byte_min x) (second_byte_max x) y then None else Some 1) 1 is in
    let second = taken (is_in_range (second_byte_min x) (second_byte_max x) y) None 1 first.1 in
    by (order x 224) (low_from 194 244 x first.0) (high_from 194 244 x first.0) (second_is x y second.0)
  where
    by : (x < 224) ⊎ (224 ≤ x) → 194 ≤ x → x ≤ 244 → IsSecond x y → IsBegun (x ∷ y ∷ [])
    by (inl few) low high second = absurd (invalid 2 (omega arith) (text_of (x ∷ y ∷ []) (made_two x y low few second.least second.most)))
    by (inr many) low high second = begun_two x y many high second
begun_of (x ∷ y ∷ z ∷ []) some invalid is =
    let first = taken (is_in_range 194 244 x) (if is_in_range (second_byte_min x) (second_byte_max x) y then (if is_in_range 128 191 z then None else Some 2) else Some 1) 1 is in
    let second = taken (is_in_range (second_byte_min x) (second_byte_max x) y) (if is_in_range 128 191 z then None else Some 2) 1 first.1 in
    let third = taken (is_in_range 128 191 z) None 2 second.1 in
    by (order x 224) (order x 240) (low_from 194 244 x first.0) (high_from 194 244 x first.0) (second_is x y second.0) (low_from 128 191 z third.0) (high_from 128 191 z third.0)
  where
    by : (x < 224) ⊎ (224 ≤ x) → (x < 240) ⊎ (240 ≤ x) → 194 ≤ x → x ≤ 244 → IsSecond x y → 128 ≤ z → z ≤ 191 → IsBegun (x ∷ y ∷ z ∷ [])
    by (inl few) _ low high second least most = absurd (invalid 2 (omega arith) (text_of (x ∷ y ∷ []) (made_two x y low few second.least second.most)))
    by (inr many) (inl few) low high second least most = absurd (invalid 3 (omega arith) (text_of (x ∷ y ∷ z ∷ []) (made_three x y z many few second least (omega arith))))
    by (inr some) (inr many) low high second least most = begun_three x y z many high second least (omega arith)
begun_of (x ∷ y ∷ z ∷ w ∷ bytes) some invalid is = absurd (grind (arith, nat_tests))

-- ---- where no character begins, and the bytes are at fault, they begin none

second_in : (x y : ℕ) → IsSecond x y → is_in_range (second_byte_min x) (second_byte_max x) y ≡ true
second_in x y second = grind (arith, nat_tests, second.least, second.most, second.after_224, second.after_237, second.after_240, second.after_244)

third_in : (z : ℕ) → Follows z → is_in_range 128 191 z ≡ true
third_in z follows = grind (arith, nat_tests)

first_in : (x : ℕ) → 194 ≤ x → x ≤ 244 → is_in_range 194 244 x ≡ true
first_in x low high = grind (arith, nat_tests)

-- the rows of the table of well-formed sequences
data Formed (c : ℕ) : Type 0 where
  In2 : (x y : ℕ) → 194 ≤ x → x < 224 → Follows y → encode c ≡ x ∷ y ∷ [] → Formed c
  In3 : (x y z : ℕ) → 224 ≤ x → x < 240 → IsSecond x y → Follows z → encode c ≡ x ∷ y ∷ z ∷ [] → Formed c
  In4 : (x y z w : ℕ) → 240 ≤ x → x ≤ 244 → IsSecond x y → Follows z → Follows w → encode c ≡ x ∷ y ∷ z ∷ w ∷ [] → Formed c

follows : (n : ℕ) → Follows (next n)
follows n = (omega arith, omega arith)

second_of_three : (c : ℕ) → 2048 ≤ c → c < 65536 → (c < 55296) ⊎ (57344 ≤ c) → IsSecond (224 + c / 4096) (next (c / 64))
second_of_three c low high (inl few) = record {
  least = omega arith;
  most = omega arith;
  after_224 = λ is. omega arith;
  after_237 = λ is. omega arith;
  after_240 = λ is. omega arith;
  after_244 = λ is. omega arith;
}
second_of_three c low high (inr many) = record {
  least = omega arith;
  most = omega arith;
  after_224 = λ is. omega arith;
  after_237 = λ is. omega arith;
  after_240 = λ is. omega arith;
  after_244 = λ is. omega arith;
}

second_of_four : (c : ℕ) → 65536 ≤ c → c < 1114112 → IsSecond (240 + c / 262144) (next (c / 4096))
second_of_four c low high = record {
  least = omega arith;
  most = omega arith;
  after_224 = λ is. omega arith;
  after_237 = λ is. omega arith;
  after_240 = λ is. omega arith;
  after_244 = λ is. omega arith;
}

no_surrogate : (c : ℕ) → (c < 55296) ⊎ ((57344 ≤ c) × (c < 1114112)) → (c < 55296) ⊎ (57344 ≤ c)
no_surrogate c (inl few) = inl few
no_surrogate c (inr many) = inr many.0

below_end : (c : ℕ) → (c < 55296) ⊎ ((57344 ≤ c) × (c < 1114112)) → c < 1114112
below_end c (inl few) = omega arith
below_end c (inr many) = many.1

formed : (c : ℕ) → IsMultibyte c → Formed c
formed c multibyte = by (order c 2048) (order c 65536) (scalar_cases c multibyte.scalar)
  where
    by : (c < 2048) ⊎ (2048 ≤ c) → (c < 65536) ⊎ (65536 ≤ c) → (c < 55296) ⊎ ((57344 ≤ c) × (c < 1114112)) → Formed c
    by (inl few) _ range = let least : 128 ≤ c = multibyte.beyond in In2 (192 + c / 64) (next c) (omega arith) (omega arith) (follows c) (two c least few)
    by (inr many) (inl few) range = In3 (224 + c / 4096) (next (c / 64)) (next c) (omega arith) (omega arith) (second_of_three c many few (no_surrogate c range)) (follows c) (three c many few)
    by (inr some) (inr many) range =
        let end = below_end c range in
        In4 (240 + c / 262144) (next (c / 4096)) (next (c / 64)) (next c) (omega arith) (omega arith) (second_of_four c many end) (follows (c / 64)) (follows c) (four c many)

none_one : (x : ℕ) → 194 ≤ x → x ≤ 244 → error_len_of_some (x ∷ []) ≡ None
none_one x low high = let one : Option ℕ = Some 1 in ap (λ t. if t then None else one) (first_in x low high)

none_two : (x y : ℕ) → 194 ≤ x → x ≤ 244 → IsSecond x y → error_len_of_some (x ∷ y ∷ []) ≡ None
none_two x y low high second =
    let one : Option ℕ = Some 1 in
    ap (λ t. if t then (if is_in_range (second_byte_min x) (second_byte_max x) y then None else one) else one) (first_in x low high) ∙ ap (λ t. if t then None else one) (second_in x y second)

none_three : (x y z : ℕ) → 194 ≤ x → x ≤ 244 → IsSecond x y → Follows z → error_len_of_some (x ∷ y ∷ z ∷ []) ≡ None
none_three x y z low high second third =
    let one : Option ℕ = Some 1 in
    let two : Option ℕ = Some 2 in
    ap (λ t. if t then (if is_in_range (second_byte_min x) (second_byte_max x) y then (if is_in_range 128 191 z then None else two) else one) else one) (first_in x low high)
    ∙ ap (λ t. if t then (if is_in_range 128 191 z then None else two) else one) (second_in x y second) ∙ ap (λ t. if t then None else two) (third_in z third)

module _ (bytes : List ℕ) (invalid : (m : ℕ) → 0 < m → ¬ (IsUtf8 (take m bytes))) (faulty : ¬ (error_len_of_some bytes ≡ None)) where
  whole_text : (c : ℕ) (rest : List ℕ) → IsMultibyte c → bytes ≡ encode c ++ rest → ⊥
  whole_text c rest multibyte is =
      invalid (length (encode c)) (omega (arith, length-encode c, len_utf8_bounds c)) (subst IsUtf8 (sym (ap (take (length (encode c))) is ∙ take_at (encode c) rest (length (encode c)) refl)) (IsUtf8-encode c multibyte.scalar))

no_begin : (bytes : List ℕ) → 0 < length bytes → ((m : ℕ) → 0 < m → ¬ (IsUtf8 (take m bytes))) → ¬ (error_len_of_some bytes ≡ None) → (c : ℕ) → IsMultibyte c → Formed c → (more rest : List ℕ) → bytes ++ more ≡ encode c ++ rest → ⊥
no_begin [] some invalid faulty c multibyte row more rest is = absurd (omega arith)
no_begin (p ∷ []) some invalid faulty c multibyte (In2 x y low high second e) more rest is =
    let all : p ∷ more ≡ x ∷ y ∷ rest = is ∙ ap (λ l. l ++ rest) e in
    let first : p ≡ x = cc in
    faulty (none_one p (omega arith) (omega arith))
no_begin (p ∷ q ∷ bytes) some invalid faulty c multibyte (In2 x y low high second e) more rest is =
    let all : p ∷ q ∷ (bytes ++ more) ≡ x ∷ y ∷ rest = is ∙ ap (λ l. l ++ rest) e in
    let first : p ≡ x = cc in
    let next : q ≡ y = cc in
    whole_text (p ∷ q ∷ bytes) invalid faulty c bytes multibyte ((λ i. first i ∷ next i ∷ bytes) ∙ ap (λ l. l ++ bytes) (sym e))
no_begin (p ∷ []) some invalid faulty c multibyte (In3 x y z low high second third e) more rest is =
    let all : p ∷ more ≡ x ∷ y ∷ z ∷ rest = is ∙ ap (λ l. l ++ rest) e in
    let first : p ≡ x = cc in
    faulty (none_one p (omega arith) (omega arith))
no_begin (p ∷ q ∷ []) some invalid faulty c multibyte (In3 x y z low high second third e) more rest is =
    let all : p ∷ q ∷ more ≡ x ∷ y ∷ z ∷ rest = is ∙ ap (λ l. l ++ rest) e in
    let first : p ≡ x = cc in
    let next : q ≡ y = cc in
    faulty (none_two p q (omega arith) (omega arith) (subst₂ IsSecond (sym first) (sym next) second))
no_begin (p ∷ q ∷ r ∷ bytes) some invalid faulty c multibyte (In3 x y z low high second third e) more rest is =
    let all : p ∷ q ∷ r ∷ (bytes ++ more) ≡ x ∷ y ∷ z ∷ rest = is ∙ ap (λ l. l ++ rest) e in
    let first : p ≡ x = cc in
    let next : q ≡ y = cc in
    let last : r ≡ z = cc in
    whole_text (p ∷ q ∷ r ∷ bytes) invalid faulty c bytes multibyte ((λ i. first i ∷ next i ∷ last i ∷ bytes) ∙ ap (λ l. l ++ bytes) (sym e))
no_begin (p ∷ []) some invalid faulty c multibyte (In4 x y z w low high second third fourth e) more rest is =
    let all : p ∷ more ≡ x ∷ y ∷ z ∷ w ∷ rest = is ∙ ap (λ l. l ++ rest) e in
    let first : p ≡ x = cc in
    faulty (none_one p (omega arith) (omega arith))
no_begin (p ∷ q ∷ []) some invalid faulty c multibyte (In4 x y z w low high second third fourth e) more rest is =
    let all : p ∷ q ∷ more ≡ x ∷ y ∷ z ∷ w ∷ rest = is ∙ ap (λ l. l ++ rest) e in
    let first : p ≡ x = cc in
    let next : q ≡ y = cc in
    faulty (none_two p q (omega arith) (omega arith) (subst₂ IsSecond (sym first) (sym next) second))
no_begin (p ∷ q ∷ r ∷ []) some invalid faulty c multibyte (In4 x y z w low high second third fourth e) more rest is =
    let all : p ∷ q ∷ r ∷ more ≡ x ∷ y ∷ z ∷ w ∷ rest = is ∙ ap (λ l. l ++ rest) e in
    let first : p ≡ x = cc in
    let next : q ≡ y = cc in
    let last : r ≡ z = cc in
    faulty (none_three p q r (omega arith) (omega arith) (subst₂ IsSecond (sym first) (sym next) second) (subst Follows (sym last) third))
no_begin (p ∷ q ∷ r ∷ s ∷ bytes) some invalid faulty c multibyte (In4 x y z w low high second third fourth e) more rest is =
    let all : p ∷ q ∷ r ∷ s ∷ (bytes ++ more) ≡ x ∷ y ∷ z ∷ w ∷ rest = is ∙ ap (λ l. l ++ rest) e in
    let first : p ≡ x = cc in
    let next : q ≡ y = cc in
    let third_is : r ≡ z = cc in
    let last : s ≡ w = cc in
    whole_text (p ∷ q ∷ r ∷ s ∷ bytes) invalid faulty c bytes multibyte ((λ i. first i ∷ next i ∷ third_is i ∷ last i ∷ bytes) ∙ ap (λ l. l ++ bytes) (sym e))

-- ---- what bytes are

module _ (bytes : List ℕ) (next : IsNext bytes) (n : ℕ) (valid : IsValidUpTo bytes n) (len : Option ℕ) (fault : len ≡ utf8_error_len (drop n bytes)) where
  some : 0 < length bytes
  some = omega (arith, next_long bytes next)

  invalid : (m : ℕ) → 0 < m → ¬ (IsUtf8 (take m bytes))
  invalid m more = valid.longest m (let none = none_valid bytes n next valid in omega arith)

  len_is : len ≡ error_len_of_some bytes
  len_is = fault ∙ ap (λ k. utf8_error_len (drop k bytes)) (none_valid bytes n next valid) ∙ utf8_error_len_some bytes some

  -- bytes that are no text, but only because they end
  pub begun_at : is_some len ≡ false → IsBegun bytes
  begun_at none = begun_of bytes some invalid (sym len_is ∙ by len none)
    where
      by : (o : Option ℕ) → is_some o ≡ false → o ≡ None
      by None e = refl
      by (Some k) e = absurd (never e)
        where
          never : true ≡ false → ⊥
          never e = (cc)

  -- bytes that are no text for another reason
  pub broken_at : is_some len ≡ true → BeginNone bytes
  broken_at faulty c more rest multibyte = no_begin bytes some invalid (λ e. by (sym faulty ∙ ap is_some (len_is ∙ e))) c multibyte (formed c multibyte) more rest
    where
      by : true ≡ false → ⊥
      by e = (cc)

-- a byte that is no first byte
pub broken_first : (byte : ℕ) → (byte < 194) ⊎ (244 < byte) → BeginNone (byte ∷ [])
broken_first byte outside c more rest multibyte is =
    let row = lead c multibyte in
    let all : byte ∷ more ≡ row.first ∷ row.second ∷ (row.others ++ rest) = is ∙ ap (λ l. l ++ rest) row.sequence in
    let first : byte ≡ row.first = cc in
    let low : 194 ≤ row.first = row.low in
    let high : row.first ≤ 244 = row.high in
    ⊎_elim (λ (few : byte < 194). absurd (omega arith)) (λ (many : 244 < byte). absurd (omega arith)) outside
