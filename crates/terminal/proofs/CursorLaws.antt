-- What a writer takes of a text, piece by piece.
use Rattle.std.proofs.Common.{◌≡◌, ℕ, ◌+◌, ◌-◌, ◌==◌, ◌&&◌, not, Bool, true, false, sym, refl, ◌∙◌, ap, subst, arith, List, ◌++◌, append_assoc, length, take, drop, Option, None, Some}
use Rattle.std.specs.Io.KnownBytes.{Appends}
use Rattle.std.proofs.Math.Seq.{take-add}
use Rattle.std.proofs.lemmas.Bool.Decides.{nat_tests}
use Rattle.std.proofs.lemmas.List.{length-drop, take_all}
use Rattle.curses.specs.Writers.{counted}

appends_more : (old between new : Option (List ℕ)) (x y : List ℕ) → Appends old between x → Appends between new y → Appends old new (x ++ y)
appends_more None between new x y h k = tt
appends_more (Some a) None new x y h k = absurd h
appends_more (Some a) (Some b) None x y h k = absurd k
appends_more (Some a) (Some b) (Some c) x y h k = k ∙ ap (λ t. t ++ y) h ∙ append_assoc a x y

whole_rest : (i : ℕ) (text : List ℕ) → take (length text - i) (drop i text) ≡ drop i text
whole_rest i text = take_all (length text - i) (drop i text) (omega (arith, length-drop i text))

pub rest_length : (i : ℕ) (text : List ℕ) → length (take (length text - i) (drop i text)) ≡ length text - i
rest_length i text = ap length (whole_rest i text) ∙ length-drop i text

-- A further piece was taken.
pub taken_more : (old between new : Option (List ℕ)) (text : List ℕ) (i n : ℕ) → Appends old between (take i text)
    → Appends between new (take n (take (length text - i) (drop i text))) → Appends old new (take (i + n) text)
taken_more old between new text i n a b =
    subst (λ t. Appends old new t) (ap (λ t. take i text ++ take n t) (whole_rest i text) ∙ sym (take-add i n text))
    (appends_more old between new (take i text) (take n (take (length text - i) (drop i text))) a b)

-- A put that took something has not failed.
pub took_some : (piece : List ℕ) (count old new : ℕ) → (count ≡ 0 → ⊥) → new ≡ counted (not (length piece == 0) && (count == 0)) old → new ≡ old
took_some piece count old new some is =
    let test : (count == 0) ≡ false = grind (arith, nat_tests) in
    is ∙ ap (λ b. counted b old) (ap (λ t. not (length piece == 0) && t) test ∙ never (not (length piece == 0)))
  where
    never : (b : Bool) → (b && false) ≡ false
    never true = refl
    never false = refl
