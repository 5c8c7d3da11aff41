-- Pens that a terminal shows.
use Rattle.std.proofs.Common.{◌≡◌, ℕ, ◌<◌, Bool, true, false, refl, sym, ap, subst, arith, Option, None, IfSome, bit_and, bit_or}
use Rattle.std.specs.Int.{bit_at}
use Rattle.std.proofs.lemmas.Nat.{and_le_l, and_le_r}
use Rattle.std.proofs.lemmas.Nat.Bits.{same_from_bits, bit_at_and, bit_at_or}
use Rattle.scr_cells.specs.PenViews.{PenView, IsColour, IsPen, plain_pen, with_attribute}
use Rattle.scr_term.specs.Operations.Abilities.{Abilities}
use Rattle.scr_term.specs.Operations.States.{AreShownColours, IsShownPen}

-- a set and one more member within a set
pub within-or : (s x a : ℕ) → bit_and s x ≡ x → bit_and s a ≡ a → bit_and s (bit_or x a) ≡ bit_or x a
within-or s x a hx ha = same_from_bits _ _ (λ i.
    let ex : bit_at (bit_and s x) i ≡ bit_at x i = ap (λ n. bit_at n i) hx in
    let ea : bit_at (bit_and s a) i ≡ bit_at a i = ap (λ n. bit_at n i) ha in
    rw (bit_at_and s (bit_or x a) i, bit_at_or x a i) (omega (arith, bit_at_and s x i, bit_at_and s a i)))

default_is_shown : (colours : Bool) → AreShownColours colours None None
default_is_shown true = (tt, tt)
default_is_shown false = (refl, refl)

-- a pen with some attributes that are shown or with none, in default colours, and one with one more attribute that is shown
pub set_is_shown : (abilities : Abilities) (set : ℕ) → bit_and abilities.shown set ≡ set → IsShownPen abilities (record plain_pen { attrs = set })
set_is_shown abilities set shown = record { attrs = shown; colours = default_is_shown abilities.colours }

pub plain_is_shown : (abilities : Abilities) → IsShownPen abilities plain_pen
plain_is_shown abilities = set_is_shown abilities 0 (omega (arith, and_le_r abilities.shown 0))

pub more_is_shown : (abilities : Abilities) (pen : PenView) (a : ℕ) → IsShownPen abilities pen → bit_and abilities.shown a ≡ a → IsShownPen abilities (with_attribute pen a)
more_is_shown abilities pen a is shown = record {
  attrs = within-or abilities.shown pen.attrs a is.attrs shown;
  colours = is.colours;
}

-- such a pen is a pen
pub shown_is_pen : (abilities : Abilities) → bit_and 127 abilities.shown ≡ abilities.shown → (pen : PenView) → IsShownPen abilities pen → IsPen pen
shown_is_pen abilities within pen is =
    let few : pen.attrs < 256 = omega (arith, is.attrs, within, and_le_l abilities.shown pen.attrs, and_le_l 127 abilities.shown) in
    let colours = known abilities.colours pen.foreground pen.background is.colours in
    record { attributes = few; foreground = colours.0; background = colours.1 }
  where
    known : (colours : Bool) (f b : Option ℕ) → AreShownColours colours f b → IfSome f IsColour × IfSome b IsColour
    known true f b c = c
    known false f b c = (subst (λ o. IfSome o IsColour) (sym c.0) tt, subst (λ o. IfSome o IsColour) (sym c.1) tt)
