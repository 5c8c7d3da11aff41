-- Edits keep lines: there is one, and none has a line feed.
use Rattle.std.proofs.Common.{◌≡◌, ℕ, zero, suc, ◌<◌, Bool, true, false, ◌||◌, ◌==◌, List, [], ◌∷◌, ◌++◌, length, take, drop, set, sym, ◌∙◌, ap, refl, arith, subst, cond}
use Rattle.std.specs.Prelude.{nat_lt}
use Rattle.std.specs.List.{list_any, slice_split, onto_first}
use Rattle.edit_text.specs.declared.parts.TextPart.{TextPart}
use Rattle.edit_text.specs.declared.places.TextPlace.{TextPlace}
use Rattle.edit_text.specs.Lines.{AreLines, deleted, has_line_feed, inserted, joined, line_at, removed, split_at, with_bytes, without_bytes}
use Rattle.edit_text.specs.Parts.{spelled}
use Rattle.edit_text.proofs.InverseLaws.{length-inserted, length-removed}

-- ---- neither

neither : (a b : Bool) → a ≡ false → b ≡ false → (a || b) ≡ false
neither a b p q = ap (λ x. x || b) p ∙ q

pub not_first : (a b : Bool) → (a || b) ≡ false → a ≡ false
not_first true b e = (cc)
not_first false b e = refl

pub not_second : (a b : Bool) → (a || b) ≡ false → b ≡ false
not_second true b e = (cc)
not_second false b e = e

-- ---- a list, with a test that no element passes

none_take : {X : Type 0} (p : X → Bool) (n : ℕ) (xs : List X) → list_any p xs ≡ false → list_any p (take n xs) ≡ false
none_take p zero xs h = refl
none_take p (suc n) [] h = refl
none_take p (suc n) (x ∷ xs) h = neither _ _ (not_first _ _ h) (none_take p n xs (not_second (p x) _ h))

none_drop : {X : Type 0} (p : X → Bool) (n : ℕ) (xs : List X) → list_any p xs ≡ false → list_any p (drop n xs) ≡ false
none_drop p zero xs h = h
none_drop p (suc n) [] h = refl
none_drop p (suc n) (x ∷ xs) h = none_drop p n xs (not_second (p x) _ h)

none_both : {X : Type 0} (p : X → Bool) (xs ys : List X) → list_any p xs ≡ false → list_any p ys ≡ false → list_any p (xs ++ ys) ≡ false
none_both p [] ys h k = k
none_both p (x ∷ xs) ys h k = neither _ _ (not_first _ _ h) (none_both p xs ys (not_second (p x) _ h) k)

none_with : (p : ℕ → Bool) (n : ℕ) (xs bs : List ℕ) → list_any p xs ≡ false → list_any p bs ≡ false → list_any p (with_bytes xs n bs) ≡ false
none_with p n xs bs h k = none_both p (take n xs) _ (none_take p n xs h) (none_both p bs _ k (none_drop p n xs h))

none_without : (p : ℕ → Bool) (n m : ℕ) (xs : List ℕ) → list_any p xs ≡ false → list_any p (without_bytes xs n m) ≡ false
none_without p n m xs h = none_both p (take n xs) _ (none_take p n xs h) (none_drop p m _ (none_drop p n xs h))

none_set : {X : Type 0} (p : X → Bool) (n : ℕ) (xs : List X) (x : X) → list_any p xs ≡ false → p x ≡ false → list_any p (set xs n x) ≡ false
none_set p n [] x h k = refl
none_set p zero (y ∷ xs) x h k = neither _ _ k (not_second (p y) _ h)
none_set p (suc n) (y ∷ xs) x h k = neither _ _ (not_first _ _ h) (none_set p n xs x (not_second (p y) _ h) k)

none_at : (ls : List (List ℕ)) (n : ℕ) → list_any has_line_feed ls ≡ false → has_line_feed (line_at ls n) ≡ false
none_at [] n h = refl
none_at (x ∷ ls) zero h = not_first _ _ h
none_at (x ∷ ls) (suc n) h = none_at ls n (not_second (has_line_feed x) _ h)

-- ---- edits

pub lines_inserted : (ls : List (List ℕ)) (p : TextPlace) (bs : List ℕ) → AreLines ls → has_line_feed bs ≡ false → AreLines (inserted ls p bs)
lines_inserted ls p bs h k =
    record {
      some = subst (λ n. 0 < n) (sym (length-inserted ls p.line p.column bs)) h.some;
      whole = none_set has_line_feed p.line ls _ h.whole (none_with (λ byte. byte == 10) p.column (line_at ls p.line) bs (none_at ls p.line h.whole) k);
    }

pub lines_removed : (ls : List (List ℕ)) (p : TextPlace) (n : ℕ) → AreLines ls → AreLines (removed ls p n)
lines_removed ls p n h =
    record {
      some = subst (λ n. 0 < n) (sym (length-removed ls p.line p.column n)) h.some;
      whole = none_set has_line_feed p.line ls _ h.whole (none_without (λ byte. byte == 10) p.column n (line_at ls p.line) (none_at ls p.line h.whole));
    }

some_there : (xs ys : List (List ℕ)) (x : List ℕ) → 0 < length (xs ++ (x ∷ ys))
some_there [] ys x = omega arith
some_there (y ∷ xs) ys x = omega arith

pub lines_split : (ls : List (List ℕ)) (p : TextPlace) → AreLines ls → AreLines (split_at ls p)
lines_split ls p h =
    let line : List ℕ = line_at ls p.line in
    let clean : has_line_feed (line_at ls p.line) ≡ false = none_at ls p.line h.whole in
    record {
      some = some_there (take p.line ls) _ _;
      whole = none_both has_line_feed (take p.line ls) _ (none_take has_line_feed p.line ls h.whole)
          (neither _ _ (none_take (λ byte. byte == 10) p.column line clean)
          (neither _ _ (none_drop (λ byte. byte == 10) p.column line clean) (none_drop has_line_feed (suc p.line) ls h.whole)));
    }

pub lines_joined : (ls : List (List ℕ)) (n : ℕ) → AreLines ls → AreLines (joined ls n)
lines_joined ls n h =
    record {
      some = some_there (take n ls) _ _;
      whole = none_both has_line_feed (take n ls) _ (none_take has_line_feed n ls h.whole)
          (neither _ _ (none_both (λ byte. byte == 10) (line_at ls n) (line_at ls (suc n)) (none_at ls n h.whole) (none_at ls (suc n) h.whole)) (none_drop has_line_feed (suc (suc n)) ls h.whole));
    }

pub lines_deleted : (ls : List (List ℕ)) (p : TextPlace) (part : TextPart) → AreLines ls → AreLines (deleted ls p part)
lines_deleted ls p part h = either (nat_lt p.column (length (line_at ls p.line)))
  where
    either : (t : Bool) → AreLines (cond t (removed ls p (length (spelled part))) (joined ls p.line))
    either true = lines_removed ls p (length (spelled part)) h
    either false = lines_joined ls p.line h

-- ---- reading

pub lines_of_split : (bytes : List ℕ) → AreLines (slice_split (λ byte. byte == 10) bytes)
lines_of_split [] = record { some = omega arith; whole = refl }
lines_of_split (x ∷ bytes) = begins x (slice_split (λ byte. byte == 10) bytes) (lines_of_split bytes) (x == 10) refl
  where
    onto : (x : ℕ) (ls : List (List ℕ)) → AreLines ls → (x == 10) ≡ false → AreLines (onto_first x ls)
    onto x [] h e = record { some = omega arith; whole = neither _ _ (neither _ _ e refl) refl }
    onto x (l ∷ ls) h e = record { some = omega arith; whole = neither _ _ (neither _ _ e (not_first _ _ h.whole)) (not_second (has_line_feed l) _ h.whole) }

    begins : (x : ℕ) (ls : List (List ℕ)) → AreLines ls → (t : Bool) → (x == 10) ≡ t → AreLines (cond t ([] ∷ ls) (onto_first x ls))
    begins x ls h true e = record { some = omega arith; whole = h.whole }
    begins x ls h false e = onto x ls h e
