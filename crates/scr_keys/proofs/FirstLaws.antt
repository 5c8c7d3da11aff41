-- Texts by their first bytes.
use Rattle.std.proofs.Common.{◌≡◌, ◌∙◌, ℕ, ◌<◌, ◌≤◌, max, Bool, true, false, ◌&&◌, ◌||◌, refl, ap, sym, arith, suc, length, take, List, [], ◌∷◌, ◌++◌, Some, None, nat_lt, if◌then◌else◌}
use Rattle.std.specs.Str.{bytes_eq}
use Rattle.std.proofs.lemmas.Bool.Decides.{nat_tests}
use Rattle.std.proofs.lemmas.Slice.Eq.{bytes_eq-Decides}
use Rattle.scr_keys.specs.Code.Maps.{begins_with, length_from, longest_from, longest_like}
use Rattle.scr_keys.specs.Keys.{Keys, goes_on, is_beginning, key_of}
use Rattle.scr_keys.proofs.DecideLaws.{beginning_short, waiting_short}

never : false ≡ true → ⊥
never e = (cc)

-- ---- texts that begin alike

same_first : (byte : ℕ) (bytes text : List ℕ) → byte ∷ bytes ≡ text → begins_with byte text ≡ true
same_first byte bytes [] same = absurd (none same)
  where
    none : byte ∷ bytes ≡ [] → ⊥
    none e = (cc)
same_first byte bytes (first ∷ text) same = let e : byte ≡ first = head same in grind (arith, nat_tests)
  where
    head : byte ∷ bytes ≡ first ∷ text → byte ≡ first
    head e = (cc)

whole_length : (byte : ℕ) (text : List ℕ) → begins_with byte text ≡ true → length_from byte text ≡ length text
whole_length byte text begins = ap (λ b. if b then length text else 0) begins

begins_first : (byte : ℕ) (bytes text : List ℕ) → is_beginning (byte ∷ bytes) text ≡ true → begins_with byte text ≡ true
begins_first byte bytes text is = by (nat_lt (length (byte ∷ bytes)) (length text)) is
  where
    first : (text : List ℕ) → byte ∷ bytes ≡ take (length (byte ∷ bytes)) text → begins_with byte text ≡ true
    first [] same = same_first byte bytes [] same
    first (t ∷ text) same = same_first byte bytes (t ∷ take (length bytes) text) same

    by : (b : Bool) → (b && bytes_eq (byte ∷ bytes) (take (length (byte ∷ bytes)) text)) ≡ true → begins_with byte text ≡ true
    by true whole = first text ((bytes_eq-Decides (byte ∷ bytes) (take (length (byte ∷ bytes)) text)).0 whole)
    by false whole = absurd (never whole)

-- ---- bytes that go on are fewer than the longest text that begins alike has

goes_from : (byte : ℕ) (bytes : List ℕ) (keys : Keys) → goes_on keys (byte ∷ bytes) ≡ true → length (byte ∷ bytes) < longest_from byte keys
goes_from byte bytes [] on = absurd (never on)
goes_from byte bytes (k ∷ keys) on = by (is_beginning (byte ∷ bytes) k.0) refl on (λ rest. goes_from byte bytes keys rest)
  where
    by : (b : Bool) → is_beginning (byte ∷ bytes) k.0 ≡ b → (b || goes_on keys (byte ∷ bytes)) ≡ true → (goes_on keys (byte ∷ bytes) ≡ true → length (byte ∷ bytes) < longest_from byte keys)
        → length (byte ∷ bytes) < max (length_from byte k.0) (longest_from byte keys)
    by true here whole rest = omega (arith, beginning_short (byte ∷ bytes) k.0 here, whole_length byte k.0 (begins_first byte bytes k.0 here))
    by false here whole rest = omega (arith, rest whole)

goes_like : (keys : Keys) (bytes : List ℕ) → goes_on keys bytes ≡ true → length bytes < longest_like keys bytes
goes_like keys [] on = waiting_short keys [] on
goes_like keys (byte ∷ bytes) on = goes_from byte bytes keys on

-- so bytes that are as many do not go on
pub goes_no_further : (keys : Keys) (bytes : List ℕ) (most : ℕ) → most ≡ longest_like keys bytes → most ≤ length bytes → nat_lt (length bytes) most ≡ goes_on keys bytes
goes_no_further keys bytes most is long = by (goes_on keys bytes) refl
  where
    by : (b : Bool) → goes_on keys bytes ≡ b → nat_lt (length bytes) most ≡ goes_on keys bytes
    by true on = absurd (omega (arith, is, long, goes_like keys bytes on))
    by false off = let test : nat_lt (length bytes) most ≡ false = grind (arith, nat_tests) in test ∙ sym off

-- ---- no key sends more bytes than the longest text that begins alike has

none_from : (byte : ℕ) (text : List ℕ) (keys : Keys) → longest_from byte keys < length (byte ∷ text) → key_of keys (byte ∷ text) ≡ None
none_from byte text [] long = refl
none_from byte text (key ∷ keys) long = by (bytes_eq (byte ∷ text) key.0) refl (none_from byte text keys (omega (arith, long)))
  where
    by : (b : Bool) → bytes_eq (byte ∷ text) key.0 ≡ b → key_of keys (byte ∷ text) ≡ None → (if b then Some key.1 else key_of keys (byte ∷ text)) ≡ None
    by true same rest =
        let e : byte ∷ text ≡ key.0 = (bytes_eq-Decides (byte ∷ text) key.0).0 same in
        absurd (omega (arith, long, ap length e, whole_length byte key.0 (same_first byte text key.0 e)))
    by false same rest = rest

pub none_like : (keys : Keys) (text : List ℕ) → longest_like keys text < length text → key_of keys text ≡ None
none_like keys [] long = absurd (omega (arith, long))
none_like keys (byte ∷ text) long = none_from byte text keys long

pub like_taken : (keys : Keys) (bytes : List ℕ) (n : ℕ) → longest_like keys (take (suc n) bytes) ≡ longest_like keys bytes
like_taken keys [] n = refl
like_taken keys (byte ∷ bytes) n = refl

-- ---- one key more

pub longest_from_more : (byte : ℕ) (keys : Keys) (text : List ℕ) (slot : ℕ) → longest_from byte (keys ++ (text, slot) ∷ []) ≡ max (longest_from byte keys) (length_from byte text)
longest_from_more byte [] text slot = omega arith
longest_from_more byte (k ∷ keys) text slot = omega (arith, longest_from_more byte keys text slot)
