-- Maps from texts, as lists of keys.
use Rattle.std.proofs.Common.{◌≡◌, ◌∙◌, ℕ, ◌+◌, ◌<◌, ◌≤◌, Bool, true, false, ◌&&◌, ◌||◌, cond, refl, ap, sym, arith, length, take, List, [], ◌∷◌, ◌++◌, Some, None, Result, Ok, Err, OnOk, is_some, nat_le, nat_lt, if◌then◌else◌}
use Rattle.std.specs.Map.{lookup}
use Rattle.std.specs.Str.{bytes_eq}
use Rattle.std.proofs.lemmas.Bool.Decides.{nat_tests}
use Rattle.std.proofs.lemmas.List.{length-take-le, map-append, take-take}
use Rattle.std.proofs.lemmas.Slice.Eq.{bytes_eq-Decides}
use Rattle.scr_keys.specs.Code.Maps.{IsClosed, seen}
use Rattle.scr_keys.specs.Keys.{Keys, is_beginning, key_of}

-- what a map has for a text
pub lookup_seen : {K : Type 0} → (bytes : K → List ℕ) (es : List (K × ℕ)) (text : List ℕ) → lookup (λ k. bytes_eq text (bytes k)) es ≡ key_of (seen bytes es) text
lookup_seen bytes [] text = refl
lookup_seen bytes (e ∷ es) text = by (bytes_eq text (bytes e.0)) (lookup_seen bytes es text)
  where
    by : (t : Bool) → lookup (λ k. bytes_eq text (bytes k)) es ≡ key_of (seen bytes es) text
        → cond t (Some e.1) (lookup (λ k. bytes_eq text (bytes k)) es) ≡ (if t then Some e.1 else key_of (seen bytes es) text)
    by true h = refl
    by false h = h

-- what holds where a call was made, and what follows from that
pub on_made : {E A B : Type 0} → (got : Result (Unit {0}) E) → (A → B) → OnOk got A → OnOk got B
on_made (Ok done) follows is = follows is
on_made (Err fault) follows is = is

pub add_last : {K : Type 0} → (bytes : K → List ℕ) (old new : List (K × ℕ)) (k : K) (text : List ℕ) (slot : ℕ) → bytes k ≡ text → new ≡ old ++ (k, slot) ∷ [] → seen bytes new ≡ seen bytes old ++ (text, slot) ∷ []
add_last bytes old new k text slot same all =
    ap (seen bytes) all ∙ map-append (λ e. (bytes e.0, e.1)) old ((k, slot) ∷ []) ∙ ap (λ t. seen bytes old ++ (t, slot) ∷ []) same

-- ---- what is found after a text was put

pub found_more : (keys : Keys) (text : List ℕ) (slot : ℕ) (q : List ℕ) → is_some (key_of (keys ++ (text, slot) ∷ []) q) ≡ (is_some (key_of keys q) || bytes_eq q text)
found_more [] text slot q = by (bytes_eq q text)
  where
    by : (t : Bool) → is_some (if t then Some slot else None) ≡ (false || t)
    by true = refl
    by false = refl
found_more (k ∷ keys) text slot q = by (bytes_eq q k.0) (found_more keys text slot q)
  where
    by : (t : Bool) → is_some (key_of (keys ++ (text, slot) ∷ []) q) ≡ (is_some (key_of keys q) || bytes_eq q text)
        → is_some (if t then Some k.1 else key_of (keys ++ (text, slot) ∷ []) q) ≡ (is_some (if t then Some k.1 else key_of keys q) || bytes_eq q text)
    by true h = refl
    by false h = h

-- ---- beginnings

-- a beginning with at least n bytes
pub begins_from : ℕ → List ℕ → List ℕ → Bool
begins_from n bytes text = nat_le n (length bytes) && is_beginning bytes text

never : true ≡ false → ⊥
never e = (cc)

or_true : (b : Bool) → (b || true) ≡ true
or_true true = refl
or_true false = refl

or_false : (b : Bool) → (b || false) ≡ b
or_false true = refl
or_false false = refl

pub or_assoc : (a b c : Bool) → ((a || b) || c) ≡ (a || (b || c))
or_assoc true b c = refl
or_assoc false b c = refl

-- what a beginning is
pub whole_beginning : (bytes text : List ℕ) → length bytes < length text → is_beginning bytes text ≡ bytes_eq bytes (take (length bytes) text)
whole_beginning bytes text short = let test : nat_lt (length bytes) (length text) ≡ true = grind (arith, nat_tests) in ap (λ b. b && bytes_eq bytes (take (length bytes) text)) test

pub beginning_is : (bytes text : List ℕ) → is_beginning bytes text ≡ true → (length bytes < length text) × (bytes ≡ take (length bytes) text)
beginning_is bytes text is = by (nat_lt (length bytes) (length text)) refl (bytes_eq bytes (take (length bytes) text)) refl is
  where
    by : (a : Bool) → nat_lt (length bytes) (length text) ≡ a → (b : Bool) → bytes_eq bytes (take (length bytes) text) ≡ b → (a && b) ≡ true → (length bytes < length text) × (bytes ≡ take (length bytes) text)
    by true short true same both = let less : length bytes < length text = grind (arith, nat_tests) in (less, (bytes_eq-Decides bytes (take (length bytes) text)).0 same)
    by true short false same both = absurd (never (sym both))
    by false short b same both = absurd (never (sym both))

-- no beginning has as many bytes as the text
pub begins_none : (b : Bool) (n : ℕ) (bytes text : List ℕ) → n ≡ length text → b ≡ (b || begins_from n bytes text)
unfolding begins_from
begins_none b n bytes text whole = by (nat_le n (length bytes)) refl (is_beginning bytes text) refl
  where
    by : (c : Bool) → nat_le n (length bytes) ≡ c → (d : Bool) → is_beginning bytes text ≡ d → b ≡ (b || (c && d))
    by false long d is = sym (or_false b)
    by true long false is = sym (or_false b)
    by true long true is = let less : n ≤ length bytes = grind (arith, nat_tests) in absurd (omega (arith, whole, (beginning_is bytes text is).0))

-- each beginning has no byte or more
pub begins_all : (n : ℕ) (bytes text : List ℕ) → n ≡ 0 → begins_from n bytes text ≡ is_beginning bytes text
unfolding begins_from
begins_all n bytes text none = let test : nat_le n (length bytes) ≡ true = grind (arith, nat_tests) in ap (λ b. b && is_beginning bytes text) test

-- one beginning more
pub begins_more : (n : ℕ) (bytes text : List ℕ) → n < length text → (begins_from (n + 1) bytes text || bytes_eq bytes (take n text)) ≡ begins_from n bytes text
unfolding begins_from
begins_more n bytes text inside = by (bytes_eq bytes (take n text)) refl (nat_le (n + 1) (length bytes)) refl (nat_le n (length bytes)) refl
  where
    by : (a : Bool) → bytes_eq bytes (take n text) ≡ a → (b : Bool) → nat_le (n + 1) (length bytes) ≡ b → (c : Bool) → nat_le n (length bytes) ≡ c
        → ((b && is_beginning bytes text) || a) ≡ (c && is_beginning bytes text)
    by true same b more c long =
        let here : bytes ≡ take n text = (bytes_eq-Decides bytes (take n text)).0 same in
        let all : length bytes ≡ n = ap length here ∙ length-take-le n text (omega (arith, inside)) in
        let test : nat_le n (length bytes) ≡ true = grind (arith, nat_tests) in
        let is : is_beginning bytes text ≡ true = whole_beginning bytes text (omega (arith, all, inside)) ∙ ap (λ k. bytes_eq bytes (take k text)) all ∙ same in
        or_true (b && is_beginning bytes text) ∙ sym (ap (λ x. c && x) is ∙ and_true c ∙ sym long ∙ test)
      where
        and_true : (b : Bool) → (b && true) ≡ b
        and_true true = refl
        and_true false = refl
    by false same true more true long = or_false (is_beginning bytes text)
    by false same true more false long = absurd (never' (grind (arith, nat_tests)))
      where
        never' : length bytes < length bytes → ⊥
        never' e = omega arith
    by false same false more false long = refl
    by false same false more true long = exactly (is_beginning bytes text) refl
      where
        exactly : (d : Bool) → is_beginning bytes text ≡ d → false ≡ d
        exactly false is = refl
        exactly true is =
            let all : length bytes ≡ n = grind (arith, nat_tests) in
            let found : bytes_eq bytes (take n text) ≡ true = ap (λ k. bytes_eq bytes (take k text)) (sym all) ∙ sym (whole_beginning bytes text (omega (arith, all, inside))) ∙ is in
            absurd (never (sym found ∙ same))

-- if a beginning was there, all shorter ones were
pub begins_early : (old now : Keys) (n : ℕ) (text : List ℕ) → n < length text → IsClosed old
    → ((bytes : List ℕ) → is_some (key_of now bytes) ≡ (is_some (key_of old bytes) || begins_from (n + 1) bytes text)) → is_some (key_of now (take n text)) ≡ true
    → (bytes : List ℕ) → is_some (key_of now bytes) ≡ (is_some (key_of old bytes) || is_beginning bytes text)
unfolding begins_from
begins_early old now n text inside closed found there bytes = found bytes ∙ by (is_beginning bytes text) refl (nat_le (n + 1) (length bytes)) refl
  where
    short : (c : Bool) → nat_le (n + 1) (length (take n text)) ≡ c → (is_some (key_of old (take n text)) || (c && is_beginning (take n text) text)) ≡ true → is_some (key_of old (take n text)) ≡ true
    short false test is = sym (or_false (is_some (key_of old (take n text)))) ∙ is
    short true test is = let more : n + 1 ≤ length (take n text) = grind (arith, nat_tests) in absurd (omega (arith, length-take-le n text (omega (arith, inside))))

    was : is_some (key_of old (take n text)) ≡ true
    was = short (nat_le (n + 1) (length (take n text))) refl (sym (found (take n text)) ∙ there)

    by : (b : Bool) → is_beginning bytes text ≡ b → (c : Bool) → nat_le (n + 1) (length bytes) ≡ c → (is_some (key_of old bytes) || (c && b)) ≡ (is_some (key_of old bytes) || b)
    by b is true long = refl
    by false is false long = refl
    by true is false long =
        let few : length bytes ≤ n = grind (arith, nat_tests) in
        let same : take (length bytes) (take n text) ≡ bytes = take-take (length bytes) n text few ∙ sym ((beginning_is bytes text is).1) in
        let old_one : is_some (key_of old bytes) ≡ true = ap (λ t. is_some (key_of old t)) (sym same) ∙ closed (take n text) (length bytes) was in
        ap (λ b. b || false) old_one ∙ sym (ap (λ b. b || true) old_one)
