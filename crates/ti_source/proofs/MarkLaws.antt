-- Marks at the capabilities that fields are about.
use Rattle.std.proofs.Common.{◌≡◌, ℕ, zero, suc, Bool, true, false, ◌||◌, List, [], ◌∷◌, ◌++◌, set, slice_index_or, refl}
use Rattle.std.specs.List.{list_any}
use Rattle.ti_source.specs.declared.reading.statement.Statement.{Statement}
use Rattle.ti_source.specs.Reading.Sources.{concerns}
use Rattle.ti_source.specs.Code.FirstFields.{ordinal}
use Rattle.ti_source.specs.Code.Marked.{AreMarked}
use Rattle.ti_source.proofs.FirstFieldLaws.{same-ordinal}

-- a mark that was put
pub at-set : (marks : List Bool) (i : ℕ) → slice_index_or (set marks i true) i true ≡ true
at-set [] zero = refl
at-set [] (suc i) = refl
at-set (m ∷ marks) zero = refl
at-set (m ∷ marks) (suc i) = at-set marks i

any-push : {A : Type 0} → (p : A → Bool) (xs : List A) (x : A) → list_any p (xs ++ x ∷ []) ≡ true → p x ≡ false → list_any p xs ≡ true
any-push p [] x some no-last = rw no-last at some
any-push p (y ∷ xs) x some no-last = by (p y) some (any-push p xs x)
  where
    by : (t : Bool) → (t || list_any p (xs ++ x ∷ [])) ≡ true → (list_any p (xs ++ x ∷ []) ≡ true → p x ≡ false → list_any p xs ≡ true) → (t || list_any p xs) ≡ true
    by true e more = refl
    by false e more = more e no-last

-- one more field, which is marked
pub marked-push : (ss after : List Statement) (s : Statement) (marks : List Bool) → after ≡ ss ++ s ∷ [] → slice_index_or marks (ordinal s.kind s.slot.0) true ≡ true → AreMarked ss marks → AreMarked after marks
marked-push ss after s marks after-is own are kind slot some = by (concerns kind slot s) refl
  where
    by : (t : Bool) → concerns kind slot s ≡ t → slice_index_or marks (ordinal kind slot) true ≡ true
    by true e = rw (same-ordinal kind s.kind slot s.slot.0 e) own
    by false e = are kind slot (any-push (concerns kind slot) ss s (rw after-is at some) e)
