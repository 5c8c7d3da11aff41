-- Facts on how a line is cut into fields.
use Rattle.std.proofs.Common.{◌≡◌, ℕ, ◌+◌, ◌<◌, Bool, true, false, not, ◌&&◌, eqb, cond, get_or, drop, length, List, [], ◌∷◌, ◌++◌, refl, ap, sym, append_assoc}
use Rattle.std.proofs.lemmas.List.{drop_more}
use Rattle.ti_source.specs.Code.Plain.{is_inner}
use Rattle.ti_source.specs.Reading.Field.{fields_after, takes_next}
use Rattle.std.specs.List.{onto_first}

-- parts, the first of which has more in front
abbrev pub with_front : List ℕ → List (List ℕ) → List (List ℕ)
with_front xs [] = xs ∷ []
with_front xs (part ∷ parts) = (xs ++ part) ∷ parts

pub with_front-onto_first : (xs : List ℕ) (b : ℕ) (parts : List (List ℕ)) → with_front xs (onto_first b parts) ≡ with_front (xs ++ b ∷ []) parts
with_front-onto_first xs b [] = refl
with_front-onto_first xs b (part ∷ parts) = ap (λ p. p ∷ parts) (sym (append_assoc xs (b ∷ []) part))

with_front-nil_onto : (b : ℕ) (parts : List (List ℕ)) → with_front [] (onto_first b parts) ≡ onto_first b parts
with_front-nil_onto b [] = refl
with_front-nil_onto b (part ∷ parts) = refl

with_front-nil_cond : (t : Bool) (xs ys : List (List ℕ)) → with_front [] xs ≡ xs → with_front [] ys ≡ ys → with_front [] (cond t xs ys) ≡ cond t xs ys
with_front-nil_cond true xs ys p q = p
with_front-nil_cond false xs ys p q = q

-- nothing in front changes nothing
pub with_front-nil : (taken : Bool) (bs : List ℕ) → with_front [] (fields_after taken bs) ≡ fields_after taken bs
with_front-nil taken [] = refl
with_front-nil taken (b ∷ bs) =
    with_front-nil_cond (not taken && eqb b 44) ([] ∷ fields_after false bs) (onto_first b (fields_after (not taken && takes_next b) bs)) refl (with_front-nil_onto b (fields_after (not taken && takes_next b) bs))

-- one more byte of the first field
pub fields_after-more : (taken : Bool) (front bs : List ℕ) (i b : ℕ) → i < length bs → b ≡ get_or bs i 0 → (not taken && eqb b 44) ≡ false → with_front front (fields_after taken (drop i bs)) ≡ with_front (front ++ b ∷ []) (fields_after (not taken && takes_next b) (drop (i + 1) bs))
fields_after-more taken front bs i b lt at goes =
    let d : drop i bs ≡ b ∷ drop (i + 1) bs = rw at (drop_more bs i 0 lt) in
    rw (d, goes) (with_front-onto_first front b (fields_after (not taken && takes_next b) (drop (i + 1) bs)))

-- a byte inside a field ends nothing, and takes nothing with it
pub inner-goes : (taken : Bool) (b : ℕ) → is_inner b ≡ true → ((not taken && eqb b 44) ≡ false) × (false ≡ (not taken && takes_next b))
inner-goes taken b is = by taken (eqb b 44) (takes_next b) is
  where
    by : (k e t : Bool) → (not e && not t) ≡ true → ((not k && e) ≡ false) × (false ≡ (not k && t))
    by true e t h = (refl, refl)
    by false false false h = (refl, refl)
    by false true t h = cc
    by false false true h = cc
