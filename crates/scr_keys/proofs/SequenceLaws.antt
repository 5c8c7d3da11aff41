-- The sequences of UTF-8: how they begin, and that none lies within the beginning of another.
use Rattle.std.proofs.Common.{◌≡◌, ◌≢◌, ◌∙◌, ℕ, ◌<◌, ◌≤◌, ◌⊎◌, inl, inr, Bool, true, false, ◌&&◌, refl, ap, sym, arith, zero, suc, length, take, drop, List, [], ◌∷◌, ◌++◌, append_assoc}
use lib.Utf8.{encode, encodes, scalar, scalar_cases, scalars}
use Rattle.std.specs.Str.{IsUtf8, IsValidUpTo}
use Rattle.std.proofs.lemmas.List.{append-nil, length-append, length-take, take-append-drop}
use Rattle.std.proofs.lemmas.Str.{cons_from_encodes, encode_ascii, encode_same, len_utf8_bounds, length-encode}
use Rattle.std.proofs.str.Laws.{Follows, Shape, of1, of2, of3, of4, order, shape}
use Rattle.scr_keys.specs.Code.Sequences.{IsNext}
use Rattle.scr_keys.specs.Typing.{CanWait, IsBegun, IsMultibyte}

-- ---- the first byte, and those that follow it

abbrev pub AllFollow : List ℕ → Type 0
AllFollow [] = Unit {0}
AllFollow (byte ∷ bytes) = Follows byte × AllFollow bytes

pub record Lead (c : ℕ) : Type 0 where
  pub first : ℕ
  pub second : ℕ
  pub others : List ℕ
  pub sequence : encode c ≡ first ∷ second ∷ others
  pub low : 194 ≤ first
  pub high : first ≤ 244
  pub follow : AllFollow (second ∷ others)

pub lead : (c : ℕ) → IsMultibyte c → Lead c
lead c multibyte = by (shape c (scalar_cases c multibyte.scalar)) (scalar_cases c multibyte.scalar)
  where
    by : Shape c → (c < 55296) ⊎ ((57344 ≤ c) × (c < 1114112)) → Lead c
    by (of1 h e) range = let least : 128 ≤ c = multibyte.beyond in absurd (omega arith)
    by (of2 a b l h f s e) range = let least : 128 ≤ c = multibyte.beyond in record { first = a; second = b; others = []; sequence = e; low = omega arith; high = omega arith; follow = (f, tt) }
    by (of3 a b d l h f g s e) range = record { first = a; second = b; others = d ∷ []; sequence = e; low = omega arith; high = omega arith; follow = (f, (g, tt)) }
    by (of4 a b d x l h f g k s e) (inl few) = record { first = a; second = b; others = d ∷ x ∷ []; sequence = e; low = omega arith; high = omega arith; follow = (f, (g, (k, tt))) }
    by (of4 a b d x l h f g k s e) (inr few) = record { first = a; second = b; others = d ∷ x ∷ []; sequence = e; low = omega arith; high = omega arith; follow = (f, (g, (k, tt))) }

-- ---- no sequence lies within the beginning of one

pub not_inside : (bytes : List ℕ) → IsBegun bytes → (c : ℕ) (rest : List ℕ) → bytes ≡ encode c ++ rest → ⊥
not_inside bytes begun c rest is =
    let whole : encode c ++ (rest ++ begun.rest) ≡ encode begun.character ++ [] =
    sym (append_assoc (encode c) rest begun.rest) ∙ ap (λ l. l ++ begun.rest) (sym is) ∙ begun.sequence ∙ sym (append-nil (encode begun.character)) in
    let none : rest ++ begun.rest ≡ [] = (encode_same c begun.character (rest ++ begun.rest) [] whole).1 in
    begun.more (no_more begun.rest (omega (arith, ap length none, length-append rest begun.rest)))
  where
    no_more : (l : List ℕ) → length l ≤ 0 → l ≡ []
    no_more [] few = refl
    no_more (x ∷ l) few = absurd (omega (arith, few))

-- what is before the last byte, where some bytes are after the first
front_of : (before first : List ℕ) (byte y : ℕ) (rest : List ℕ) → before ++ byte ∷ [] ≡ first ++ y ∷ rest → (l : List ℕ) × (before ≡ first ++ l)
front_of before [] byte y rest is = (before, refl)
front_of [] (z ∷ first) byte y rest is = absurd (omega (arith, ap length is, length-append first (y ∷ rest)))
front_of (x ∷ before) (z ∷ first) byte y rest is =
    let tails : before ++ byte ∷ [] ≡ first ++ y ∷ rest = cc in
    let heads : x ≡ z = cc in
    let found = front_of before first byte y rest tails in
    (found.0, (λ i. heads i ∷ found.1 i))

-- ---- one byte more than begins a sequence

-- there are two bytes at least
pub next_long : (bytes : List ℕ) → IsNext bytes → 1 < length bytes
next_long bytes next = omega (arith, ap length next.bytes_are, length-append next.before (next.byte ∷ []), some next.before next.waits.some)
  where
    some : (l : List ℕ) → l ≢ [] → 0 < length l
    some [] there = absurd (there refl)
    some (x ∷ l) there = omega arith

-- a sequence in front of them takes them all
pub whole_is : (bytes : List ℕ) → IsNext bytes → (c : ℕ) (rest : List ℕ) → bytes ≡ encode c ++ rest → rest ≡ []
whole_is bytes next c [] is = refl
whole_is bytes next c (y ∷ rest) is = let found = front_of next.before (encode c) next.byte y rest (sym next.bytes_are ∙ is) in absurd (not_inside next.before next.waits c found.0 found.1)

-- such a sequence is a character's
pub whole_at : (bytes : List ℕ) → IsNext bytes → IsUtf8 bytes → (c : ℕ) (rest : List ℕ) → bytes ≡ encode c ++ rest → IsMultibyte c × (bytes ≡ encode c)
whole_at bytes next text c rest is =
    let front = cons_from_encodes text.0 rest c (text.1.1 ∙ is) in
    let all : bytes ≡ encode c = is ∙ ap (λ l. encode c ++ l) (whole_is bytes next c rest is) ∙ append-nil (encode c) in
    (record { scalar = first_of (scalar c) (scalars front.0) (sym (ap scalars front.1) ∙ text.1.0); beyond = by (order c 128) all }, all)
  where
    first_of : (x y : Bool) → (x && y) ≡ true → x ≡ true
    first_of true y e = refl
    first_of false y e = e

    by : (c < 128) ⊎ (128 ≤ c) → bytes ≡ encode c → 128 ≤ c
    by (inl few) all = absurd (omega (arith, ap length (all ∙ encode_ascii c few), next_long bytes next))
    by (inr many) all = many

-- no text lies within them
pub none_valid : (bytes : List ℕ) (n : ℕ) → IsNext bytes → IsValidUpTo bytes n → n ≡ 0
none_valid bytes zero next valid = refl
none_valid bytes (suc n) next valid = by valid.front.0 valid.front.1.1
  where
    by : (cs : List ℕ) → encodes cs ≡ take (suc n) bytes → suc n ≡ 0
    by [] e = let short : suc n < length bytes = valid.short in absurd (omega (arith, ap length e, length-take (suc n) bytes))
    by (c ∷ cs) e =
        let short : suc n < length bytes = valid.short in
        let all : bytes ≡ encode c ++ (encodes cs ++ drop (suc n) bytes) =
        sym (take-append-drop (suc n) bytes) ∙ ap (λ l. l ++ drop (suc n) bytes) (sym e) ∙ append_assoc (encode c) (encodes cs) (drop (suc n) bytes) in
        let none = whole_is bytes next c (encodes cs ++ drop (suc n) bytes) all in
        absurd (omega (arith, ap length none, length-append (encodes cs) (drop (suc n) bytes), ap length (take-append-drop (suc n) bytes), length-append (take (suc n) bytes) (drop (suc n) bytes), length-take (suc n) bytes))

-- ---- what waits is short

pub begun_short : (bytes : List ℕ) → CanWait bytes → length bytes ≤ 3
begun_short [] waits = omega arith
begun_short (x ∷ bytes) waits = by waits.rest waits.more waits.sequence
  where
    by : (rest : List ℕ) → rest ≢ [] → (x ∷ bytes) ++ rest ≡ encode waits.character → length (x ∷ bytes) ≤ 3
    by [] more is = absurd (more refl)
    by (y ∷ rest) more is = omega (arith, ap length is, length-append (x ∷ bytes) (y ∷ rest), length-encode waits.character, len_utf8_bounds waits.character)
