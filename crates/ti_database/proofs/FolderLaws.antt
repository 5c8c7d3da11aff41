-- Folders that are appended one after another.
use Rattle.std.proofs.Common.{◌≡◌, ◌∙◌, ℕ, ap, sym, List, [], ◌∷◌, ◌++◌, append_assoc, length, take, take_all, get_or, ◌<◌, ◌+◌, arith}
use Rattle.std.proofs.lemmas.List.{take_more, append-nil}
use Rattle.std.proofs.lemmas.List.Concat.{flat_map-append}
use Rattle.std.specs.List.{flat_map}

pub three_put : {A : Type 0} (a b c d : List A) (x y z : A) → b ≡ a ++ x ∷ [] → c ≡ b ++ y ∷ [] → d ≡ c ++ z ∷ [] → d ≡ a ++ x ∷ y ∷ z ∷ []
three_put a b c d x y z p q r =
    r ∙ ap (λ l. l ++ z ∷ []) (q ∙ ap (λ l. l ++ y ∷ []) p ∙ append_assoc a (x ∷ []) (y ∷ [])) ∙ append_assoc a (x ∷ y ∷ []) (z ∷ [])

-- what one more part gives
pub part_more : {A : Type 0} (f : List ℕ → List A) (parts : List (List ℕ)) (part : List ℕ) (i : ℕ) → i < length parts → part ≡ get_or parts i part
    → flat_map f (take (i + 1) parts) ≡ flat_map f (take i parts) ++ f part
part_more f parts part i lt is =
    ap (flat_map f) (take_more parts i part lt ∙ ap (λ p. take i parts ++ p ∷ []) (sym is))
    ∙ flat_map-append f (take i parts) (part ∷ []) ∙ ap (λ l. flat_map f (take i parts) ++ l) (append-nil (f part))

pub part_put : {A : Type 0} (f : List ℕ → List A) (parts : List (List ℕ)) (part : List ℕ) (i j : ℕ) (before old new : List A) → i < length parts → part ≡ get_or parts i part
    → j ≡ i + 1 → old ≡ before ++ flat_map f (take i parts) → new ≡ old ++ f part → new ≡ before ++ flat_map f (take j parts)
part_put f parts part i j before old new lt is next o n =
    n ∙ ap (λ l. l ++ f part) o ∙ append_assoc before (flat_map f (take i parts)) (f part)
    ∙ ap (λ l. before ++ l) (sym (part_more f parts part i lt is)) ∙ ap (λ k. before ++ flat_map f (take k parts)) (sym next)

pub parts_all : {A : Type 0} (f : List ℕ → List A) (parts : List (List ℕ)) (i : ℕ) → i ≡ length parts → flat_map f (take i parts) ≡ flat_map f parts
parts_all f parts i e = ap (flat_map f) (take_all i parts (omega arith))
