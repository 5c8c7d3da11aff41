-- A text is cut where a byte stands first.
use Rattle.std.proofs.Common.{◌≡◌, ◌≢◌, ℕ, ◌+◌, ◌-◌, ◌<◌, ◌==◌, false, refl, sym, ◌∙◌, ap, arith, eq-eqb, List, [], ◌∷◌, ◌++◌, length, take, drop, get_or, drop-cons, add-one}
use Rattle.std.specs.List.{slice_split, All}
use Rattle.std.proofs.lemmas.List.{take-append-drop, length-take-le, get_or_default, get_or-take, take_rest}
use Rattle.std.proofs.lemmas.List.Splits.{slice_split_at, slice_split_none}
use Rattle.std.proofs.lemmas.Bool.Decides.{nat_tests}

-- no byte before a place is this one
abbrev pub IsNotBefore : ℕ → List ℕ → ℕ → Type 0
IsNotBefore byte text place = (k : ℕ) → k < place → get_or text k 0 ≡ byte → ⊥

all_others : (byte : ℕ) (text : List ℕ) → IsNotBefore byte text (length text) → All (λ b. (b == byte) ≡ false) text
all_others byte text h = λ k d high.
    let same : get_or text k d ≡ get_or text k 0 = get_or_default text k d 0 high in
    let other : get_or text k 0 ≢ byte = h k high in
    rw same (grind (arith, nat_tests))

pub split_none : (byte : ℕ) (text : List ℕ) → IsNotBefore byte text (length text) → slice_split (λ b. b == byte) text ≡ text ∷ []
split_none byte text h = slice_split_none (λ b. b == byte) text (all_others byte text h)

pub split_at : (byte : ℕ) (text : List ℕ) (place : ℕ) → place < length text → get_or text place 0 ≡ byte → IsNotBefore byte text place
    → slice_split (λ b. b == byte) text ≡ take place text ∷ slice_split (λ b. b == byte) (drop (place + 1) text)
split_at byte text place inside here h =
    let whole : text ≡ take place text ++ (byte ∷ drop (place + 1) text) =
    sym (take-append-drop place text) ∙ ap (λ t. take place text ++ t) (rw add-one (drop-cons text place 0 inside) ∙ ap (λ b. b ∷ drop (place + 1) text) here) in
    let long : length (take place text) ≡ place = length-take-le place text (omega arith) in
    ap (slice_split (λ b. b == byte)) whole
    ∙ slice_split_at (λ b. b == byte) (take place text) byte (drop (place + 1) text)
    (all_others byte (take place text) (λ k lt e. h k (omega arith) (sym (get_or-take place text k 0 (omega arith)) ∙ e)))
    (eq-eqb byte byte refl)

-- what is cut off as the rest is the rest
pub rest_of : (text : List ℕ) (n : ℕ) → drop n text ≡ take (length text - n) (drop n text)
rest_of text n = sym (take_rest text n)
