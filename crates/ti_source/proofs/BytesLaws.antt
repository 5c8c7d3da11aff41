-- The texts of an entry are bytes, none of which is 0.
use Rattle.std.proofs.Common.{◌≡◌, ℕ, ◌<◌, Bool, true, false, ◌||◌, eqb, List, [], ◌∷◌, Option, Some, None, IfSome, refl, arith}
use Rattle.std.proofs.lemmas.Bool.Decides.{nat_tests}
use Rattle.ti_caps.specs.Description.{AreBytes, Description, IsDescription, has_nul, text_at}
use Rattle.ti_source.specs.Reading.Escape.{IsText}

-- the texts are bytes, none of which is 0
abbrev pub HasTexts : Description → Type 0
HasTexts d = (slot : ℕ) → IfSome (text_at d slot) IsText

is-text : (xs : List ℕ) → AreBytes xs → has_nul xs ≡ false → IsText xs
is-text [] bytes none = tt
is-text (x ∷ xs) bytes none = by (eqb x 0) (is-text xs bytes.1) refl none
  where
    by : (t : Bool) → (has_nul xs ≡ false → IsText xs) → eqb x 0 ≡ t → (t || has_nul xs) ≡ false → IsText (x ∷ xs)
    by true rest e n = cc
    by false rest e n =
        let some : 0 < x = grind (arith, nat_tests) in
        (some, bytes.0, rest n)

pub has-texts : (d : Description) → IsDescription d → HasTexts d
has-texts d is slot = by (text_at d slot) (is.whole slot) (is.bytes slot)
  where
    by : (o : Option (List ℕ)) → IfSome o (λ t. has_nul t ≡ false) → IfSome o AreBytes → IfSome o IsText
    by None w b = tt
    by (Some t) w b = is-text t b w
