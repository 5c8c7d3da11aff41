-- What a defined unit leads to is a state of the screen.
use Rattle.std.proofs.Common.{◌≡◌, ℕ, ◌-◌, ◌≤◌, ◌&&◌, leb, arith, Bool, true, false, cond, eqb, List, [], ◌∷◌, Option, Some, None, bit_and, refl, sym, ap, ◌∙◌, subst}
use Rattle.std.specs.Prelude.{IfSome, option_and_then, option_map, unwrap_or}
use Rattle.std.proofs.lemmas.Bool.Decides.{nat_tests}
use Rattle.std.specs.Option.{ForSome}
use Rattle.scr_cells.specs.declared.charsets.Charset.TheVariants.{Utf8}
use Rattle.scr_cells.specs.PenViews.{IsColour, PenView, plain_pen, with_attribute}
use Rattle.scr_term.specs.Operations.States.{AreShownColours, IsShownPen}
use Rattle.scr_term.specs.Operations.Abilities.{Abilities, full_abilities}
use Rattle.scr_term.specs.Ecma.Meanings.{rendition, rendition_attribute, renditions}
use Rattle.scr_terminal.specs.Code.Changes.{IsChange}
use Rattle.scr_terminal.specs.declared.changes.Change.{Change}
use Rattle.scr_term.specs.Operations.Laws.{ShownPenLaws}

-- what holds of each way out of a test
one_of : {A : Type 0} → (Fits : A → Type 0) (t : Bool) (x : A) (rest : Option A) (b : A) → Fits x → (rest ≡ Some b → Fits b) → cond t (Some x) rest ≡ Some b → Fits b
one_of Fits true x rest b fits others e = let same : x ≡ b = cc in subst Fits same fits
one_of Fits false x rest b fits others e = others e

attribute_shown : ShownPenLaws → (abilities : Abilities) → abilities.shown ≡ 127 → (a : PenView) (n : ℕ) (k : ℕ) → IsShownPen abilities a → rendition_attribute n ≡ Some k → IsShownPen abilities (with_attribute a k)
attribute_shown pens abilities every a n k is =
    let Fits : ℕ → Type 0 = λ k. IsShownPen abilities (with_attribute a k) in
    let more : (k : ℕ) → bit_and 127 k ≡ k → IsShownPen abilities (with_attribute a k) = λ k e. pens.more abilities a k is (ap (λ s. bit_and s k) every ∙ e) in
    one_of Fits (eqb n 1) 32 _ k (more 32 refl)
    (one_of Fits (eqb n 2) 16 _ k (more 16 refl)
    (one_of Fits (eqb n 4) 2 _ k (more 2 refl)
    (one_of Fits (eqb n 5) 8 _ k (more 8 refl)
    (one_of Fits (eqb n 7) 4 _ k (more 4 refl)
    (one_of Fits (eqb n 8) 64 _ k (more 64 refl)
    (λ (e : None ≡ Some k). cc))))))

mapped : (f : ℕ → PenView) (o : Option ℕ) (b : PenView) → option_map f o ≡ Some b → (k : ℕ) × (o ≡ Some k) × (f k ≡ b)
mapped f None b e = cc
mapped f (Some k) b e = let same : f k ≡ b = cc in (k, refl, same)

coloured : (abilities : Abilities) → abilities.colours ≡ true → (a b : PenView) → IsShownPen abilities a → b.attrs ≡ a.attrs
    → IfSome b.foreground IsColour → IfSome b.background IsColour → IsShownPen abilities b
coloured abilities shows a b is same fore back = record {
  attrs = ap (bit_and abilities.shown) same ∙ is.attrs ∙ sym same;
  colours = subst (λ s. AreShownColours s b.foreground b.background) (sym shows) (fore, back);
}

own_colours : (abilities : Abilities) → abilities.colours ≡ true → (a : PenView) → IsShownPen abilities a → IfSome a.foreground IsColour × IfSome a.background IsColour
own_colours abilities shows a is = subst (λ s. AreShownColours s a.foreground a.background) shows is.colours

colour_in : (t : Bool) (first last n : ℕ) (make : PenView) (rest : Option PenView) (b : PenView) (Fits : PenView → Type 0)
    → (t ≡ (leb first n && leb n last)) → (first ≤ n → n ≤ last → Fits make) → (rest ≡ Some b → Fits b) → cond t (Some make) rest ≡ Some b → Fits b
colour_in true first last n make rest b Fits test fits others e =
    let same : make ≡ b = cc in
    subst Fits same (fits (grind (arith, nat_tests)) (grind (arith, nat_tests)))
colour_in false first last n make rest b Fits test fits others e = others e

rendition_shown : ShownPenLaws → (abilities : Abilities) → abilities.shown ≡ 127 → abilities.colours ≡ true → (a : PenView) (n : ℕ) (b : PenView) → IsShownPen abilities a → rendition a n ≡ Some b → IsShownPen abilities b
rendition_shown pens abilities every shows a n b is =
    let Fits : PenView → Type 0 = IsShownPen abilities in
    let own = own_colours abilities shows a is in
    one_of Fits (eqb n 0) plain_pen _ b (pens.plain abilities)
    (colour_in (leb 30 n && leb n 37) 30 37 n (record a { foreground = Some (n - 30) }) _ b Fits refl
    (λ low high. coloured abilities shows a (record a { foreground = Some (n - 30) }) is refl (omega arith) own.1)
    (one_of Fits (eqb n 39) (record a { foreground = None }) _ b (coloured abilities shows a (record a { foreground = None }) is refl tt own.1)
    (colour_in (leb 40 n && leb n 47) 40 47 n (record a { background = Some (n - 40) }) _ b Fits refl
    (λ low high. coloured abilities shows a (record a { background = Some (n - 40) }) is refl own.0 (omega arith))
    (one_of Fits (eqb n 49) (record a { background = None }) _ b (coloured abilities shows a (record a { background = None }) is refl own.0 tt)
    (λ (e : option_map (with_attribute a) (rendition_attribute n) ≡ Some b).
    let more = mapped (with_attribute a) (rendition_attribute n) b e in
    subst Fits more.2 (attribute_shown pens abilities every a n more.0 is more.1))))))

step : (o : Option PenView) (f : PenView → Option PenView) (b : PenView) → option_and_then f o ≡ Some b → (x : PenView) × (o ≡ Some x) × (f x ≡ Some b)
step None f b e = cc
step (Some x) f b e = (x, refl, e)

all_shown : ShownPenLaws → (abilities : Abilities) → abilities.shown ≡ 127 → abilities.colours ≡ true → (a : PenView) (ns : List (Option ℕ)) (b : PenView) → IsShownPen abilities a → renditions a ns ≡ Some b → IsShownPen abilities b
all_shown pens abilities every shows a [] b is e = let same : a ≡ b = cc in subst (λ (pen : PenView). IsShownPen abilities pen) same is
all_shown pens abilities every shows a (n ∷ ns) b is e =
    let first = step (rendition a (unwrap_or n 0)) (λ next. renditions next ns) b e in
    all_shown pens abilities every shows first.0 ns b (rendition_shown pens abilities every shows a (unwrap_or n 0) first.0 is first.1) first.2

-- SGR leaves a pen that a screen shows
pub renditions_shown : ShownPenLaws → (rows columns : ℕ) (a : PenView) (ns : List (Option ℕ)) (b : PenView) → IsShownPen (full_abilities Utf8 rows columns) a → Some b ≡ renditions a ns → IsShownPen (full_abilities Utf8 rows columns) b
renditions_shown pens rows columns a ns b is e = all_shown pens (full_abilities Utf8 rows columns) refl refl a ns b is (sym e)

-- a change that fits a screen, by what it is
pub change_fits : (rows columns r c : ℕ) (o : Option Change) (y : Change) → ForSome o (IsChange rows columns) → o ≡ Some y
    → r ≡ rows → c ≡ columns → IsChange r c y
change_fits rows columns r c o y h e p q =
    let fits : IsChange rows columns y = h y e in
    let here : IsChange r columns y = subst (λ n. IsChange n columns y) (sym p) fits in
    subst (λ n. IsChange r n y) (sym q) here
