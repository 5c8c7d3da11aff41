-- An entry without the texts that insert, delete or scroll.
use Rattle.std.proofs.Common.{◌≡◌, ◌∙◌, ℕ, zero, suc, Bool, true, false, ◌||◌, ◌&&◌, ◌==◌, List, [], ◌∷◌, Option, Some, None, is_none, get_or, set, refl, sym, ap, arith}
use Rattle.std.specs.List.{list_all, list_any}
use Rattle.std.proofs.lemmas.List.{get_or-set_other}
use Rattle.std.proofs.lemmas.Bool.{and_parts, eqb-true}
use Rattle.std.proofs.lemmas.Bool.Decides.{nat_tests}
use Rattle.ti_caps.specs.Adapted.{MovesAreLeftOut, is_moving, moving_texts, texts_without, without_moves}
use Rattle.ti_caps.specs.Bundled.{IsBundled, bundled_texts, listed}
use Rattle.ti_caps.specs.Description.{Description, text_at}

never : true ≡ false → ⊥
never e = (cc)

or_false : (a b : Bool) → (a || b) ≡ false → (a ≡ false) × (b ≡ false)
or_false true b e = absurd (never e)
or_false false b e = (refl, e)

others_stay : (slots : List ℕ) (texts : List (Option (List ℕ))) (slot : ℕ) → list_any (λ s. s == slot) slots ≡ false → get_or (texts_without slots texts) slot None ≡ get_or texts slot None
others_stay [] texts slot none = refl
others_stay (s ∷ slots) texts slot none =
    let parts = or_false (s == slot) (list_any (λ s. s == slot) slots) none in
    let other : s ≡ slot → ⊥ = λ e. let same : (s == slot) ≡ true = grind (arith, nat_tests) in never (sym same ∙ parts.0) in
    others_stay slots (set texts s None) slot parts.1 ∙ get_or-set_other texts s slot None None (λ e. other (sym e))

set_none : (texts : List (Option (List ℕ))) (slot : ℕ) → get_or (set texts slot None) slot None ≡ None
set_none [] slot = refl
set_none (t ∷ texts) zero = refl
set_none (t ∷ texts) (suc slot) = set_none texts slot

-- a text that is absent stays so
still_none : (texts : List (Option (List ℕ))) (s slot : ℕ) → get_or texts slot None ≡ None → get_or (set texts s None) slot None ≡ None
still_none [] s slot none = none
still_none (t ∷ texts) zero zero none = refl
still_none (t ∷ texts) zero (suc slot) none = none
still_none (t ∷ texts) (suc s) zero none = none
still_none (t ∷ texts) (suc s) (suc slot) none = still_none texts s slot none

none_stays : (slots : List ℕ) (texts : List (Option (List ℕ))) (slot : ℕ) → get_or texts slot None ≡ None → get_or (texts_without slots texts) slot None ≡ None
none_stays [] texts slot none = none
none_stays (s ∷ slots) texts slot none = none_stays slots (set texts s None) slot (still_none texts s slot none)

left_out : (slots : List ℕ) (texts : List (Option (List ℕ))) (slot : ℕ) → list_any (λ s. s == slot) slots ≡ true → get_or (texts_without slots texts) slot None ≡ None
left_out [] texts slot some = absurd (never (sym some))
left_out (s ∷ slots) texts slot some = by (s == slot) refl some (left_out slots (set texts s None) slot)
  where
    by : (b : Bool) → (s == slot) ≡ b → (b || list_any (λ s. s == slot) slots) ≡ true → (list_any (λ s. s == slot) slots ≡ true → get_or (texts_without slots (set texts s None)) slot None ≡ None)
        → get_or (texts_without slots (set texts s None)) slot None ≡ None
    by true here any further = none_stays slots (set texts s None) slot (ap (λ i. get_or (set texts i None) slot None) (eqb-true s slot here) ∙ set_none texts slot)
    by false other any further = further any

-- the bundled entry has none of them
all_of : (is : ℕ → Bool) (slots : List ℕ) (slot : ℕ) → list_all is slots ≡ true → list_any (λ s. s == slot) slots ≡ true → is slot ≡ true
all_of is [] slot all some = absurd (never (sym some))
all_of is (s ∷ slots) slot all some = by (s == slot) refl some (all_of is slots slot (and_parts (is s) (list_all is slots) all).1)
  where
    by : (b : Bool) → (s == slot) ≡ b → (b || list_any (λ s. s == slot) slots) ≡ true → (list_any (λ s. s == slot) slots ≡ true → is slot ≡ true) → is slot ≡ true
    by true here any further = ap is (sym (eqb-true s slot here)) ∙ (and_parts (is s) (list_all is slots) all).0
    by false other any further = further any

is_nothing : {A : Type 0} → (o : Option A) → is_none o ≡ true → o ≡ None
is_nothing None e = refl
is_nothing (Some x) e = absurd (never (sym e))

none_bundled : list_all (λ s. is_none (listed bundled_texts s)) moving_texts ≡ true
unfolding bundled_texts
none_bundled = refl

text_then : (d : Description) (slot : ℕ) → IsBundled d → (b : Bool) → is_moving slot ≡ b → get_or (texts_without moving_texts d.texts) slot None ≡ listed bundled_texts slot
text_then d slot is true moving =
    left_out moving_texts d.texts slot moving ∙ sym (is_nothing (listed bundled_texts slot) (all_of (λ s. is_none (listed bundled_texts s)) moving_texts slot none_bundled moving))
text_then d slot is false other = others_stay moving_texts d.texts slot other ∙ is.texts slot

pub moves_laws : MovesAreLeftOut
unfolding without_moves
moves_laws = record {
  flags = λ d. refl;
  numbers = λ d. refl;
  absent = λ d slot moving. left_out moving_texts d.texts slot moving;
  others = λ d slot other. others_stay moving_texts d.texts slot other;
  bundled = λ d is. record { names = is.names; flags = is.flags; numbers = is.numbers; texts = λ slot. text_then d slot is (is_moving slot) refl };
}
