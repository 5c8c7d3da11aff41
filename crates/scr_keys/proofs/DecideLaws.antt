-- Keys one after another.
use Rattle.std.proofs.Common.{◌≡◌, ◌∙◌, ℕ, ◌+◌, ◌-◌, ◌<◌, ◌≤◌, max, Bool, true, false, ◌&&◌, ◌||◌, refl, ap, sym, subst, arith, zero, suc, length, take, drop, List, [], ◌∷◌, ◌++◌, append_assoc, nat_lt, if◌then◌else◌}
use Rattle.std.specs.Str.{bytes_eq}
use Rattle.std.proofs.lemmas.Bool.Decides.{nat_tests}
use Rattle.std.proofs.lemmas.List.{length-append, length-drop, take_all, drop-drop}
use Rattle.scr_keys.specs.declared.keys.Key.{Key}
use Rattle.scr_keys.specs.Keys.{Keys, first_of, goes_on, is_beginning, keys_read, bytes_left, longest_text}

pub whole_rest : (i : ℕ) (text : List ℕ) → take (length text - i) (drop i text) ≡ drop i text
whole_rest i text = take_all (length text - i) (drop i text) (omega (arith, length-drop i text))

keys_drop : (more : Bool) (keys : Keys) (n : ℕ) (x : List ℕ) → keys_read more keys n x ≡ keys_read more keys 0 (drop n x)
keys_drop more keys zero x = refl
keys_drop more keys (suc n) [] = refl
keys_drop more keys (suc n) (b ∷ x) = keys_drop more keys n x

left_drop : (more : Bool) (keys : Keys) (n : ℕ) (x : List ℕ) → bytes_left more keys n x ≡ bytes_left more keys 0 (drop n x)
left_drop more keys zero x = refl
left_drop more keys (suc n) [] = refl
left_drop more keys (suc n) (b ∷ x) = left_drop more keys n x

dropped : (n : ℕ) (b : ℕ) (x : List ℕ) → 1 ≤ n → drop (n - 1) x ≡ drop n (b ∷ x)
dropped zero b x some = absurd (omega (arith, some))
dropped (suc n) b x some = let e : suc n - 1 ≡ n = omega arith in ap (λ k. drop k x) e

-- the first key, and those of the rest
pub first_keys : (more : Bool) (keys : Keys) (x : List ℕ) → 0 < length x → (more && goes_on keys x) ≡ false → 1 ≤ (first_of keys x).1
    → keys_read more keys 0 x ≡ (first_of keys x).0 ∷ keys_read more keys 0 (drop (first_of keys x).1 x)
first_keys more keys [] some waits count = absurd (omega (arith, some))
first_keys more keys (b ∷ x) some waits count =
    ap (λ w. if w then [] else (first_of keys (b ∷ x)).0 ∷ keys_read more keys ((first_of keys (b ∷ x)).1 - 1) x) waits
    ∙ ap (λ k. (first_of keys (b ∷ x)).0 ∷ k) (keys_drop more keys ((first_of keys (b ∷ x)).1 - 1) x ∙ ap (keys_read more keys 0) (dropped (first_of keys (b ∷ x)).1 b x count))

pub first_left : (more : Bool) (keys : Keys) (x : List ℕ) → 0 < length x → (more && goes_on keys x) ≡ false → 1 ≤ (first_of keys x).1
    → bytes_left more keys 0 x ≡ bytes_left more keys 0 (drop (first_of keys x).1 x)
first_left more keys [] some waits count = absurd (omega (arith, some))
first_left more keys (b ∷ x) some waits count =
    ap (λ w. if w then b ∷ x else bytes_left more keys ((first_of keys (b ∷ x)).1 - 1) x) waits
    ∙ left_drop more keys ((first_of keys (b ∷ x)).1 - 1) x ∙ ap (bytes_left more keys 0) (dropped (first_of keys (b ∷ x)).1 b x count)

-- ---- the loop

inside_rest : (start : ℕ) (bytes : List ℕ) → start < length bytes → 0 < length (drop start bytes)
inside_rest start bytes inside = omega (arith, inside, length-drop start bytes)

pub decide_more : (more : Bool) (keys : Keys) (bytes : List ℕ) (start : ℕ) (queue old new : List Key) (first : Key × ℕ) → start < length bytes → (more && goes_on keys (drop start bytes)) ≡ false
    → first ≡ first_of keys (drop start bytes) → 1 ≤ first.1 → new ≡ queue ++ first.0 ∷ [] → queue ++ keys_read more keys 0 (drop start bytes) ≡ old ++ keys_read more keys 0 bytes
    → new ++ keys_read more keys 0 (drop (start + first.1) bytes) ≡ old ++ keys_read more keys 0 bytes
decide_more more keys bytes start queue old new first inside waits is count all so =
    ap (λ n. n ++ keys_read more keys 0 (drop (start + first.1) bytes)) all ∙ append_assoc queue (first.0 ∷ []) (keys_read more keys 0 (drop (start + first.1) bytes))
    ∙ ap (λ d. queue ++ first.0 ∷ keys_read more keys 0 d) (sym (drop-drop first.1 start bytes))
    ∙ ap (λ f. queue ++ f.0 ∷ keys_read more keys 0 (drop f.1 (drop start bytes))) is
    ∙ ap (λ k. queue ++ k) (sym (first_keys more keys (drop start bytes) (inside_rest start bytes inside) waits (subst (λ f. 1 ≤ f.1) is count))) ∙ so

pub decide_left : (more : Bool) (keys : Keys) (bytes : List ℕ) (start : ℕ) (first : Key × ℕ) → start < length bytes → (more && goes_on keys (drop start bytes)) ≡ false
    → first ≡ first_of keys (drop start bytes) → 1 ≤ first.1 → bytes_left more keys 0 (drop start bytes) ≡ bytes_left more keys 0 bytes
    → bytes_left more keys 0 (drop (start + first.1) bytes) ≡ bytes_left more keys 0 bytes
decide_left more keys bytes start first inside waits is count so =
    ap (bytes_left more keys 0) (sym (drop-drop first.1 start bytes)) ∙ ap (λ f. bytes_left more keys 0 (drop f.1 (drop start bytes))) is
    ∙ sym (first_left more keys (drop start bytes) (inside_rest start bytes inside) waits (subst (λ f. 1 ≤ f.1) is count)) ∙ so

pub decide_full : (more : Bool) (keys : Keys) (bytes : List ℕ) (start : ℕ) (queue old : List Key) (room : ℕ) → start < length bytes → (more && goes_on keys (drop start bytes)) ≡ false → 1 ≤ (first_of keys (drop start bytes)).1
    → room ≤ length queue → queue ++ keys_read more keys 0 (drop start bytes) ≡ old ++ keys_read more keys 0 bytes → room < length old + length (keys_read more keys 0 bytes)
decide_full more keys bytes start queue old room inside waits count full so =
    omega (
      arith,
      full,
      ap length so,
      length-append queue (keys_read more keys 0 (drop start bytes)),
      length-append old (keys_read more keys 0 bytes),
      ap length (first_keys more keys (drop start bytes) (inside_rest start bytes inside) waits count),
    )

-- the end: nothing is left, or it waits
pub ends : (more : Bool) (keys : Keys) (x : List ℕ) → (0 < length x → (more && goes_on keys x) ≡ true) → (keys_read more keys 0 x ≡ []) × (bytes_left more keys 0 x ≡ x)
ends more keys [] waits = (refl, refl)
ends more keys (b ∷ x) waits =
    let w : (more && goes_on keys (b ∷ x)) ≡ true = waits (omega arith) in
    (ap (λ t. if t then [] else (first_of keys (b ∷ x)).0 ∷ keys_read more keys ((first_of keys (b ∷ x)).1 - 1) x) w, ap (λ t. if t then b ∷ x else bytes_left more keys ((first_of keys (b ∷ x)).1 - 1) x) w)

-- ---- what waits is short

pub beginning_short : (bytes text : List ℕ) → is_beginning bytes text ≡ true → length bytes < length text
beginning_short bytes text is = by (nat_lt (length bytes) (length text)) refl is
  where
    by : (b : Bool) → nat_lt (length bytes) (length text) ≡ b → (b && bytes_eq bytes (take (length bytes) text)) ≡ true → length bytes < length text
    by true test whole = grind (arith, nat_tests)
    by false test whole = absurd (never whole)
      where
        never : false ≡ true → ⊥
        never e = (cc)

pub waiting_short : (keys : Keys) (bytes : List ℕ) → goes_on keys bytes ≡ true → length bytes < longest_text keys
waiting_short [] bytes is = absurd (never is)
  where
    never : false ≡ true → ⊥
    never e = (cc)
waiting_short (k ∷ keys) bytes is = by (is_beginning bytes k.0) refl is (λ rest. waiting_short keys bytes rest)
  where
    by : (b : Bool) → is_beginning bytes k.0 ≡ b → (b || goes_on keys bytes) ≡ true → (goes_on keys bytes ≡ true → length bytes < longest_text keys) → length bytes < max (length k.0) (longest_text keys)
    by true here whole rest = omega (arith, beginning_short bytes k.0 here)
    by false here whole rest = omega (arith, rest whole)

-- what is left waits, or is nothing
pub left_short : (keys : Keys) (n : ℕ) (bytes : List ℕ) → length (bytes_left true keys n bytes) ≤ longest_text keys - 1
left_short keys n [] = omega arith
left_short keys (suc n) (b ∷ bytes) = left_short keys n bytes
left_short keys zero (b ∷ bytes) = by (goes_on keys (b ∷ bytes)) refl (left_short keys ((first_of keys (b ∷ bytes)).1 - 1) bytes)
  where
    by : (w : Bool) → goes_on keys (b ∷ bytes) ≡ w → length (bytes_left true keys ((first_of keys (b ∷ bytes)).1 - 1) bytes) ≤ longest_text keys - 1
        → length (if w then b ∷ bytes else bytes_left true keys ((first_of keys (b ∷ bytes)).1 - 1) bytes) ≤ longest_text keys - 1
    by true here rest = omega (arith, waiting_short keys (b ∷ bytes) here)
    by false here rest = rest
