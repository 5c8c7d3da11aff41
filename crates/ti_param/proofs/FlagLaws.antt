-- Flags, as the reader takes them one after another, are those of the definition, both ways.
use Rattle.std.proofs.Common.{◌≡◌, ℕ, Bool, true, false, List, [], ◌∷◌, ◌++◌, refl, sym, ap, subst, ◌∙◌}
use Rattle.std.specs.Prelude.{◌&&◌, ◌||◌, eqb}
use Rattle.std.specs.List.{list_all}
use Rattle.std.proofs.Math.Bool.{or-true}
use Rattle.std.proofs.lemmas.Bool.{cond_both, eqb-true, and_parts}
use Rattle.ti_param.specs.declared.directives.Format.{Format}
use Rattle.ti_param.specs.Spelling.{has, is_flag}
use Rattle.ti_param.specs.Code.Tokens.{flags}

-- the flags at the head of a text, beside those that a format has
pub record FlagsAre (colon : Bool) (f : Format) (text : List ℕ) (r : Format × List ℕ) : Type 0 where
  pub front : List ℕ
  pub are : list_all (is_flag colon) front ≡ true
  pub whole : text ≡ front ++ r.1
  pub left : (r.0).left ≡ (f.left || has 45 front)
  pub plus : (r.0).plus ≡ (f.plus || has 43 front)
  pub blank : (r.0).blank ≡ (f.blank || has 32 front)
  pub alternate : (r.0).alternate ≡ (f.alternate || has 35 front)

or_false : (q : Bool) → q ≡ (q || false)
or_false true = refl
or_false false = refl

-- no flags
none_are : (colon : Bool) (f : Format) (text : List ℕ) → FlagsAre colon f text (f, text)
none_are colon f text =
    record { front = []; are = refl; whole = refl; left = or_false f.left; plus = or_false f.plus; blank = or_false f.blank; alternate = or_false f.alternate }

hash : (colon : Bool) (f : Format) (text : List ℕ) (r : Format × List ℕ) → FlagsAre colon (record f { alternate = true }) text r → FlagsAre colon f (35 ∷ text) r
hash colon f text r d =
    record { front = 35 ∷ d.front; are = d.are; whole = ap (λ l. 35 ∷ l) d.whole; left = d.left; plus = d.plus; blank = d.blank; alternate = d.alternate ∙ sym (or-true f.alternate) }

space : (colon : Bool) (f : Format) (text : List ℕ) (r : Format × List ℕ) → FlagsAre colon (record f { blank = true }) text r → FlagsAre colon f (32 ∷ text) r
space colon f text r d =
    record { front = 32 ∷ d.front; are = d.are; whole = ap (λ l. 32 ∷ l) d.whole; left = d.left; plus = d.plus; blank = d.blank ∙ sym (or-true f.blank); alternate = d.alternate }

minus : (colon : Bool) (f : Format) (text : List ℕ) (r : Format × List ℕ) → colon ≡ true → FlagsAre colon (record f { left = true }) text r → FlagsAre colon f (45 ∷ text) r
minus colon f text r c d =
    record { front = 45 ∷ d.front; are = ap (λ q. (q && true) && list_all (is_flag colon) d.front) c ∙ d.are; whole = ap (λ l. 45 ∷ l) d.whole; left = d.left ∙ sym (or-true f.left); plus = d.plus; blank = d.blank; alternate = d.alternate }

plus_sign : (colon : Bool) (f : Format) (text : List ℕ) (r : Format × List ℕ) → colon ≡ true → FlagsAre colon (record f { plus = true }) text r → FlagsAre colon f (43 ∷ text) r
plus_sign colon f text r c d =
    record { front = 43 ∷ d.front; are = ap (λ q. (q && true) && list_all (is_flag colon) d.front) c ∙ d.are; whole = ap (λ l. 43 ∷ l) d.whole; left = d.left; plus = d.plus ∙ sym (or-true f.plus); blank = d.blank; alternate = d.alternate }

-- with this byte at its head
with_head : (colon : Bool) (f : Format) (b c : ℕ) (text : List ℕ) (r : Format × List ℕ) → eqb b c ≡ true → FlagsAre colon f (c ∷ text) r → FlagsAre colon f (b ∷ text) r
with_head colon f b c text r e d = subst (λ x. FlagsAre colon f (x ∷ text) r) (sym (eqb-true b c e)) d

pub flags_are : (colon : Bool) (f : Format) (text : List ℕ) → FlagsAre colon f text (flags colon f text)
flags_are colon f [] = none_are colon f []
flags_are colon f (b ∷ text) =
    let P : Format × List ℕ → Type 0 = FlagsAre colon f (b ∷ text) in
    let w = flags colon (record f { alternate = true }) text in
    let x = flags colon (record f { blank = true }) text in
    let y = flags colon (record f { left = true }) text in
    let z = flags colon (record f { plus = true }) text in
    let last : Format × List ℕ = (f, b ∷ text) in
    cond_both (eqb b 35) w _ P (λ e. with_head colon f b 35 text w e (hash colon f text w (flags_are colon (record f { alternate = true }) text))) (λ _.
    cond_both (eqb b 32) x _ P (λ e. with_head colon f b 32 text x e (space colon f text x (flags_are colon (record f { blank = true }) text))) (λ _.
    cond_both (colon && eqb b 45) y _ P (λ e. let p = and_parts colon (eqb b 45) e in with_head colon f b 45 text y p.1 (minus colon f text y p.0 (flags_are colon (record f { left = true }) text))) (λ _.
    cond_both (colon && eqb b 43) z last P (λ e. let p = and_parts colon (eqb b 43) e in with_head colon f b 43 text z p.1 (plus_sign colon f text z p.0 (flags_are colon (record f { plus = true }) text))) (λ _. none_are colon f (b ∷ text)))))
