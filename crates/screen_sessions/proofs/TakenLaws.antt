-- What a writer has taken in calls that were made one after another.
use Rattle.std.proofs.Common.{ℕ, ◌∷◌, sym, refl, ◌∙◌, ap, arith, List, [], ◌++◌, append_assoc, Option, None, Some}
use Rattle.std.specs.Io.KnownBytes.{Appends}
use Rattle.std.proofs.lemmas.List.{append-nil}
use Rattle.scr_term.specs.declared.operations.operation.Op.{Op}
use Rattle.scr_term.specs.Operations.Profiles.{ProfileView}
use Rattle.curses.specs.Cuts.{IsCut}
use Rattle.curses.specs.Updates.{IsOfOneText}

pub appends_more : (old between new : Option (List ℕ)) (x y : List ℕ) → Appends old between x → Appends between new y → Appends old new (x ++ y)
appends_more None between new x y h k = tt
appends_more (Some a) None new x y h k = absurd h
appends_more (Some a) (Some b) None x y h k = absurd k
appends_more (Some a) (Some b) (Some c) x y h k = k ∙ ap (λ t. t ++ y) h ∙ append_assoc a x y

pub appends_none : (old : Option (List ℕ)) → Appends old old []
appends_none None = tt
appends_none (Some a) = sym (append-nil a)

-- nothing was sent
pub cut_none : (owed : List ℕ) (old : Option (List ℕ)) → IsCut owed [] old old 0 owed
cut_none owed old = record { taken = []; writer = appends_none old; bytes = refl; whole = append-nil owed }

-- where an operation was begun, what was owed before it does not matter
whatever_was_owed : (profile : ProfileView) (a b : List ℕ) (op : Op) (ops : List Op) (rest : List ℕ) → IsOfOneText profile a (op ∷ ops) rest → IsOfOneText profile b (op ∷ ops) rest
whatever_was_owed profile a b op [] rest few = few
whatever_was_owed profile a b op (next ∷ ops) rest few = whatever_was_owed profile a b next ops rest few

-- operations were begun, and then others
pub one_after : (profile : ProfileView) (first owed : List ℕ) (begun more : List Op) (rest : List ℕ) → IsOfOneText profile first begun owed → IsOfOneText profile owed more rest → IsOfOneText profile first (begun ++ more) rest
one_after profile first owed [] [] rest before few = omega (arith, before, few)
one_after profile first owed [] (m ∷ more) rest before few = whatever_was_owed profile owed first m more rest few
one_after profile first owed (op ∷ []) [] rest before few = omega (arith, before, few)
one_after profile first owed (op ∷ []) (m ∷ more) rest before few = whatever_was_owed profile owed first m more rest few
one_after profile first owed (op ∷ next ∷ begun) more rest before few = one_after profile first owed (next ∷ begun) more rest before few
