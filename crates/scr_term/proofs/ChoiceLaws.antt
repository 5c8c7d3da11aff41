-- Choices that gave something.
use Rattle.std.proofs.Common.{◌≡◌, ◌&&◌, Bool, true, false, cond, refl, ap, ◌∙◌, Option, Some, None, option_and_then}
use Rattle.std.proofs.lemmas.Bool.{false≢true}

-- what a test chose, where the other way out is none
pub chosen : {A : Type 0} (b : Bool) (x : Option A) (y : A) → cond b x None ≡ Some y → (b ≡ true) × (x ≡ Some y)
chosen true x y h = (refl, h)
chosen false x y h = (cc, cc)

pub same_some : {A : Type 0} (x y : A) → Some x ≡ Some y → x ≡ y
same_some x y h = cc

pub both_true : (a b : Bool) → (a && b) ≡ true → (a ≡ true) × (b ≡ true)
both_true true b h = (refl, h)
both_true false b h = absurd (false≢true h)

pub and_true : (a b : Bool) → a ≡ true → b ≡ true → (a && b) ≡ true
and_true a b ha hb = ap (λ x. x && b) ha ∙ hb

pub no_some : {A : Type 0} (y : A) → None ≡ Some y → ⊥
no_some y h = (cc)

-- a chain that gave something gave something at its first step
pub then_some : {A B : Type 0} (first : Option A) (f : A → Option B) (y : B) → option_and_then f first ≡ Some y → (x : A) × (first ≡ Some x) × (f x ≡ Some y)
then_some (Some x) f y h = (x, refl, h)
then_some None f y h = absurd (no_some y h)
