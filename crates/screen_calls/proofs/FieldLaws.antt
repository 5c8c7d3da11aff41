-- The first field of a text, and what its fields spell.
use Rattle.std.proofs.Common.{◌≡◌, ℕ, zero, suc, ◌+◌, ◌<◌, eqb, true, false, map, ◌≤◌, refl, sym, ◌∙◌, ap, arith, List, [], ◌∷◌, ◌++◌, length, take, get_or, Option, Some, None}
use Rattle.std.specs.Prelude.{option_and_then, option_map}
use Rattle.std.specs.List.{slice_split, join_with_byte}
use Rattle.std.proofs.lemmas.Bool.Decides.{nat_tests}
use Rattle.std.proofs.lemmas.List.{map-append, take_more, take_all}
use Rattle.std.proofs.lemmas.List.Splits.{length-slice_split, join_with_byte-slice_split}
use Rattle.screen_calls.specs.Fields.{fields_of, first_and_rest, cut, each, parts_after}

some_field : (text : List ℕ) → 0 < length (fields_of text)
some_field text = omega (arith, length-slice_split (λ b. eqb b 32) text)

rest_joined : (first : List ℕ) (fields : List (List ℕ)) → 0 < length fields → first_and_rest (first ∷ fields) ≡ (first, Some (join_with_byte 32 fields))
rest_joined first [] some = absurd (omega arith)
rest_joined first (field ∷ fields) some = refl

cut_parts : (first : List ℕ) (behind : Option (List ℕ)) → first_and_rest (first ∷ parts_after 32 behind) ≡ (first, behind)
cut_parts first None = refl
cut_parts first (Some rest) =
    rest_joined first (fields_of rest) (some_field rest) ∙ ap (λ (t : List ℕ). (first, Some t)) (join_with_byte-slice_split 32 rest)

-- the first field is what stands before the first blank
pub cut_is : (text first : List ℕ) (behind : Option (List ℕ)) → slice_split (λ b. eqb b 32) text ≡ first ∷ parts_after 32 behind → cut text ≡ (first, behind)
unfolding cut
cut_is text first behind split = ap first_and_rest split ∙ cut_parts first behind

-- one field after another

abbrev first_and : {A : Type 0} → Option A → Option (List A) → Option (List A)
first_and {A} o p = option_and_then (λ (x : A). option_map (λ (xs : List A). x ∷ xs) p) o

first_and_some : {A : Type 0} (o : Option A) (p : Option (List A)) (all : List A) → first_and o p ≡ Some all
    → (x : A) × (xs : List A) × (o ≡ Some x) × (p ≡ Some xs) × (x ∷ xs ≡ all)
first_and_some None p all e = cc
first_and_some (Some x) None all e = cc
first_and_some (Some x) (Some xs) all e = (x, xs, refl, refl, cc)

first_and_none : {A : Type 0} (o : Option A) → first_and o None ≡ None
first_and_none None = refl
first_and_none (Some x) = refl

each_push : {A : Type 0} (f : List ℕ → Option A) (fields : List (List ℕ)) (field : List ℕ) (xs : List A) (x : A)
    → each f fields ≡ Some xs → f field ≡ Some x → each f (fields ++ field ∷ []) ≡ Some (xs ++ x ∷ [])
each_push {A} f [] field xs x e h =
    let none : [] ≡ xs = cc in
    ap (λ (o : Option A). first_and o (Some [])) h ∙ ap (λ (ys : List A). Some (ys ++ x ∷ [])) none
each_push {A} f (first ∷ fields) field xs x e h =
    let parts = first_and_some (f first) (each f fields) xs e in
    let rest = each_push f fields field parts.1 x parts.3 h in
    ap (λ (o : Option A). first_and o (each f (fields ++ field ∷ []))) parts.2 ∙ ap (first_and (Some parts.0)) rest
    ∙ ap (λ (ys : List A). Some (ys ++ x ∷ [])) parts.4

-- one field more
pub each_more : {A : Type 0} (f : List ℕ → Option A) (fields : List (List ℕ)) (field : List ℕ) (i : ℕ) (xs : List A) (x : A) → i < length fields
    → field ≡ get_or fields i field → each f (take i fields) ≡ Some xs → f field ≡ Some x → each f (take (i + 1) fields) ≡ Some (xs ++ x ∷ [])
each_more f fields field i xs x inside is e h =
    ap (each f) (take_more fields i field inside ∙ ap (λ p. take i fields ++ p ∷ []) (sym is)) ∙ each_push f (take i fields) field xs x e h

each_none : {A : Type 0} (f : List ℕ → Option A) (fields : List (List ℕ)) (i : ℕ) (d : List ℕ) → i < length fields → f (get_or fields i d) ≡ None
    → each f fields ≡ None
each_none f [] i d inside e = absurd (omega arith)
each_none {A} f (field ∷ fields) zero d inside e = ap (λ (o : Option A). first_and o (each f fields)) e
each_none f (field ∷ fields) (suc i) d inside e = ap (first_and (f field)) (each_none f fields i d (omega arith) e) ∙ first_and_none (f field)

-- a field that spells nothing
pub each_stops : {A : Type 0} (f : List ℕ → Option A) (fields : List (List ℕ)) (field : List ℕ) (i : ℕ) → i < length fields
    → field ≡ get_or fields i field → f field ≡ None → each f fields ≡ None
each_stops f fields field i inside is e = each_none f fields i field inside (ap f (sym is) ∙ e)

pub each_all : {A : Type 0} (f : List ℕ → Option A) (fields : List (List ℕ)) (i : ℕ) → i ≡ length fields → each f (take i fields) ≡ each f fields
each_all f fields i e = ap (each f) (take_all i fields (omega arith))

-- one field more of those that are taken, as each is seen
pub taken_more : {A : Type 0} (f : A → List ℕ) (fields : List (List ℕ)) (xs : List A) (x : A) (i : ℕ) → i < length fields
    → f x ≡ get_or fields i (f x) → map f xs ≡ take i fields → map f (xs ++ x ∷ []) ≡ take (i + 1) fields
taken_more f fields xs x i inside is e =
    map-append f xs (x ∷ []) ∙ ap (λ ys. ys ++ f x ∷ []) e
    ∙ sym (take_more fields i (f x) inside ∙ ap (λ p. take i fields ++ p ∷ []) (sym is))

-- all fields, where they are no more than are taken
pub taken_all : (fields : List (List ℕ)) (i most : ℕ) → i ≡ length fields → i ≤ most → take i fields ≡ take most fields
taken_all fields i most whole few = take_all i fields (omega arith) ∙ sym (take_all most fields (omega arith))

-- a list that has not as many elements as it has room for has room for one more
pub has_room : (n most : ℕ) → eqb n most ≡ false → n ≤ most → n + 1 ≤ most
has_room n most other few = grind (arith, nat_tests)
