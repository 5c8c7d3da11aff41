-- What is computed is what the rules read.
use Rattle.std.proofs.Common.{◌≡◌, ◌∙◌, ℕ, ◌≤◌, Bool, true, false, ◌&&◌, refl, ap, sym, subst, arith, zero, suc, length, drop, List, [], ◌∷◌, Option, Some, None}
use Rattle.std.proofs.lemmas.List.{length-drop}
use Rattle.scr_keys.specs.declared.keys.Key.{Key}
use Rattle.scr_keys.specs.Keys.{AreRead, Keys, bytes_left, first_key, goes_on, key_or_byte, keys_read, longest}
use Rattle.scr_keys.specs.Laws.{KeysAreRead}
use Rattle.scr_keys.proofs.DecideLaws.{ends, first_keys, first_left}
use Rattle.scr_keys.proofs.KeyLaws.{longest_inside}

-- a first key has a byte at least
some_bytes : (keys : Keys) (byte : ℕ) (bytes : List ℕ) → 1 ≤ (first_key keys byte bytes).1
some_bytes keys byte bytes = by (longest keys (byte ∷ bytes) (length (byte ∷ bytes))) refl
  where
    by : (o : Option (ℕ × ℕ)) → longest keys (byte ∷ bytes) (length (byte ∷ bytes)) ≡ o → 1 ≤ (key_or_byte byte o).1
    by None is = omega arith
    by (Some key) is = (longest_inside keys (byte ∷ bytes) (length (byte ∷ bytes)) key is).0

-- what the rules read is what is computed
only : (more : Bool) (keys : Keys) (bytes : List ℕ) (read : List Key) (left : List ℕ) → AreRead more keys bytes read left → (read ≡ keys_read more keys 0 bytes) × (left ≡ bytes_left more keys 0 bytes)
only more keys bytes read left AreRead.Nothing = (refl, refl)
only more keys bytes read left (AreRead.Waiting b waits) = let e = ends more keys b (λ some. waits) in (sym e.0, sym e.1)
only more keys bytes read left (AreRead.First byte rest others end on is) =
    let h = only more keys (drop (first_key keys byte rest).1 (byte ∷ rest)) others end is in
    (ap (λ k. (first_key keys byte rest).0 ∷ k) h.0 ∙ sym (first_keys more keys (byte ∷ rest) (omega arith) on (some_bytes keys byte rest)), h.1 ∙ sym (first_left more keys (byte ∷ rest) (omega arith) on (some_bytes keys byte rest)))

-- what is computed is read by the rules; there are at most n bytes
computed : (n : ℕ) (more : Bool) (keys : Keys) (bytes : List ℕ) → length bytes ≤ n → AreRead more keys bytes (keys_read more keys 0 bytes) (bytes_left more keys 0 bytes)
computed n more keys [] few = AreRead.Nothing
computed zero more keys (byte ∷ bytes) few = absurd (omega (arith, few))
computed (suc n) more keys (byte ∷ bytes) few =
    by (more && goes_on keys (byte ∷ bytes)) refl (computed n more keys (drop (first_key keys byte bytes).1 (byte ∷ bytes)) (omega (arith, few, some_bytes keys byte bytes, length-drop (first_key keys byte bytes).1 (byte ∷ bytes))))
  where
    by : (waits : Bool) → (more && goes_on keys (byte ∷ bytes)) ≡ waits
        → AreRead more keys (drop (first_key keys byte bytes).1 (byte ∷ bytes)) (keys_read more keys 0 (drop (first_key keys byte bytes).1 (byte ∷ bytes))) (bytes_left more keys 0 (drop (first_key keys byte bytes).1 (byte ∷ bytes)))
        → AreRead more keys (byte ∷ bytes) (keys_read more keys 0 (byte ∷ bytes)) (bytes_left more keys 0 (byte ∷ bytes))
    by true waits then =
        let e = ends more keys (byte ∷ bytes) (λ some. waits) in
        subst (λ k. AreRead more keys (byte ∷ bytes) k (bytes_left more keys 0 (byte ∷ bytes))) (sym e.0)
        (subst (λ l. AreRead more keys (byte ∷ bytes) [] l) (sym e.1) (AreRead.Waiting (byte ∷ bytes) waits))
    by false on then =
        let count = some_bytes keys byte bytes in
        let rest : List ℕ = drop (first_key keys byte bytes).1 (byte ∷ bytes) in
        subst (λ k. AreRead more keys (byte ∷ bytes) k (bytes_left more keys 0 (byte ∷ bytes))) (sym (first_keys more keys (byte ∷ bytes) (omega arith) on count))
        (subst (λ l. AreRead more keys (byte ∷ bytes) ((first_key keys byte bytes).0 ∷ keys_read more keys 0 rest) l) (sym (first_left more keys (byte ∷ bytes) (omega arith) on count))
        (AreRead.First byte bytes (keys_read more keys 0 rest) (bytes_left more keys 0 rest) on then))

pub read : KeysAreRead
read more keys bytes keys_there left = (
  only more keys bytes keys_there left,
  λ both. subst (λ k. AreRead more keys bytes k left) (sym both.0) (subst (λ l. AreRead more keys bytes (keys_read more keys 0 bytes) l) (sym both.1) (computed (length bytes) more keys bytes (omega arith))),
)
