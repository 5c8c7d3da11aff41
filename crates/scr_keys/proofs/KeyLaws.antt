-- The longest key.
use Rattle.std.proofs.Common.{◌≡◌, ◌∙◌, ℕ, ◌+◌, ◌-◌, ◌<◌, ◌≤◌, min, ◌⊎◌, inl, inr, refl, ap, sym, arith, zero, suc, length, take, List, [], ◌∷◌, Option, Some, None, option_map}
use Rattle.std.proofs.lemmas.List.{length-take-le}
use Rattle.ti_caps.specs.Table.{or_else}
use Rattle.scr_keys.specs.Code.Maps.{longest_like}
use Rattle.scr_keys.specs.Keys.{Keys, first_of, key_of, key_or_byte, longest}
use Rattle.scr_keys.proofs.FirstLaws.{like_taken, none_like}

-- the longest key has no more bytes than the longest text that begins alike
pub longest_of_more : (keys : Keys) (bytes : List ℕ) (n k : ℕ) → n + k ≤ length bytes → longest_like keys bytes ≤ n → longest keys bytes (n + k) ≡ longest keys bytes n
longest_of_more keys bytes n zero inside all = let e : n + 0 ≡ n = omega arith in ap (longest keys bytes) e
longest_of_more keys bytes n (suc k) inside all =
    let e : n + suc k ≡ suc (n + k) = omega arith in
    let none : key_of keys (take (suc (n + k)) bytes) ≡ None = none_like keys (take (suc (n + k)) bytes) (omega (arith, all, like_taken keys bytes (n + k), length-take-le (suc (n + k)) bytes (omega (arith, inside)))) in
    ap (longest keys bytes) e ∙ ap (λ o. or_else (option_map (λ slot. (slot, suc (n + k))) o) (longest keys bytes (n + k))) none ∙ longest_of_more keys bytes n k (omega (arith, inside)) all

pub longest_of_least : (keys : Keys) (bytes : List ℕ) (n : ℕ) → n ≤ length bytes → longest_like keys bytes ≤ n → longest keys bytes (length bytes) ≡ longest keys bytes n
longest_of_least keys bytes n inside all =
    let e : length bytes ≡ n + (length bytes - n) = omega (arith, inside) in
    ap (longest keys bytes) e ∙ longest_of_more keys bytes n (length bytes - n) (omega (arith, inside)) all

-- a text of n bytes that is a key's, and one that is not
pub longest_here : (keys : Keys) (bytes : List ℕ) (n slot : ℕ) → 0 < n → key_of keys (take n bytes) ≡ Some slot → longest keys bytes n ≡ Some (slot, n)
longest_here keys bytes zero slot some here = absurd (omega (arith, some))
longest_here keys bytes (suc n) slot some here = ap (λ o. or_else (option_map (λ slot. (slot, suc n)) o) (longest keys bytes n)) here

pub longest_below : (keys : Keys) (bytes : List ℕ) (n : ℕ) → 0 < n → key_of keys (take n bytes) ≡ None → longest keys bytes n ≡ longest keys bytes (n - 1)
longest_below keys bytes zero some none = absurd (omega (arith, some))
longest_below keys bytes (suc n) some none =
    let e : suc n - 1 ≡ n = omega arith in
    ap (λ o. or_else (option_map (λ slot. (slot, suc n)) o) (longest keys bytes n)) none ∙ ap (longest keys bytes) (sym e)

either_least : (a b : ℕ) → (a ≤ b) ⊎ (b ≤ a)
either_least zero b = inl (omega arith)
either_least (suc a) zero = inr (omega arith)
either_least (suc a) (suc b) = further (either_least a b)
  where
    further : (a ≤ b) ⊎ (b ≤ a) → (suc a ≤ suc b) ⊎ (suc b ≤ suc a)
    further (inl l) = inl (omega (arith, l))
    further (inr r) = inr (omega (arith, r))

pub longest_of_min : (keys : Keys) (bytes : List ℕ) (n most : ℕ) → n ≡ min (length bytes) most → most ≡ longest_like keys bytes → longest keys bytes (length bytes) ≡ longest keys bytes n
longest_of_min keys bytes n most is all = by (either_least most (length bytes))
  where
    by : (most ≤ length bytes) ⊎ (length bytes ≤ most) → longest keys bytes (length bytes) ≡ longest keys bytes n
    by (inl l) = longest_of_least keys bytes n (omega (arith, is, l)) (omega (arith, is, l, all))
    by (inr r) = let e : length bytes ≡ n = omega (arith, is, r) in ap (longest keys bytes) e

-- the longest key has a byte at least, and no more than were looked at
pub longest_inside : (keys : Keys) (bytes : List ℕ) (n : ℕ) (key : ℕ × ℕ) → longest keys bytes n ≡ Some key → (1 ≤ key.1) × (key.1 ≤ n)
longest_inside keys bytes zero key is = absurd (never is)
  where
    never : None ≡ Some key → ⊥
    never e = (cc)
longest_inside keys bytes (suc n) key is = by (key_of keys (take (suc n) bytes)) is (λ rest. longest_inside keys bytes n key rest)
  where
    by : (o : Option ℕ) → or_else (option_map (λ slot. (slot, suc n)) o) (longest keys bytes n) ≡ Some key → (longest keys bytes n ≡ Some key → (1 ≤ key.1) × (key.1 ≤ n)) → (1 ≤ key.1) × (key.1 ≤ suc n)
    by None is rest = let h : (1 ≤ key.1) × (key.1 ≤ n) = rest is in (h.0, omega (arith, h.1))
    by (Some s) is rest =
        let here : ℕ × ℕ = (s, suc n) in
        let e : here ≡ key = same here key is in
        let f : suc n ≡ key.1 = ap (λ p. p.1) e in
        (omega (arith, f), omega (arith, f))
      where
        same : (a b : ℕ × ℕ) → Some a ≡ Some b → a ≡ b
        same a b e = (cc)

-- the first key has a byte at least
pub count_some : (keys : Keys) (bytes : List ℕ) → 0 < length bytes → 1 ≤ (first_of keys bytes).1
count_some keys [] some = absurd (omega (arith, some))
count_some keys (b ∷ bytes) some = by (longest keys (b ∷ bytes) (length (b ∷ bytes))) (λ key is. (longest_inside keys (b ∷ bytes) (length (b ∷ bytes)) key is).0)
  where
    by : (o : Option (ℕ × ℕ)) → ((key : ℕ × ℕ) → o ≡ Some key → 1 ≤ key.1) → 1 ≤ (key_or_byte b o).1
    by None h = omega arith
    by (Some key) h = h key refl
