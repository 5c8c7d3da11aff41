-- A printed text stands for the text that it was printed from.
use Rattle.std.proofs.Common.{◌≡◌, ◌∙◌, ℕ, ◌+◌, ◌/◌, ◌%◌, ◌<◌, Bool, true, false, cond, eqb, ltb, leb, ◌||◌, ◌⊎◌, inl, inr, List, [], ◌∷◌, ◌++◌, refl, ap, sym, subst, arith}
use Rattle.std.proofs.lemmas.Bool.Decides.{nat_tests}
use Rattle.ti_source.specs.Reading.Escape.{is_octal, letter, control, octal, not_nul, decoded, printed_byte, printed_text, IsText}

by_test : (P : List ℕ → Type 0) (t : Bool) (xs ys : List ℕ) → ((t ≡ true) → P xs) → ((t ≡ false) → P ys) → P (cond t xs ys)
by_test P true xs ys then-so else-so = then-so refl
by_test P false xs ys then-so else-so = else-so refl

either : (a b : Bool) → (a || b) ≡ true → (a ≡ true) ⊎ (b ≡ true)
either true b e = inl refl
either false b e = inr e

plain-first : (b : ℕ) (rest : List ℕ) → eqb b 92 ≡ false → eqb b 94 ≡ false → decoded (b ∷ rest) ≡ not_nul b ∷ decoded rest
plain-first b [] p q = refl
plain-first b (c ∷ bs) p q = rw (p, q) refl

slash-first : (c : ℕ) (rest : List ℕ) → is_octal c ≡ false → decoded (92 ∷ c ∷ rest) ≡ not_nul (letter c) ∷ decoded rest
slash-first c [] h = refl
slash-first c (d ∷ []) h = refl
slash-first c (d ∷ e ∷ es) h = rw h refl

caret-first : (c : ℕ) (rest : List ℕ) → decoded (94 ∷ c ∷ rest) ≡ not_nul (control c) ∷ decoded rest
caret-first c rest = refl

octal-first : (x y z : ℕ) (rest : List ℕ) → is_octal x ≡ true → is_octal y ≡ true → is_octal z ≡ true → decoded (92 ∷ x ∷ y ∷ z ∷ rest) ≡ not_nul (octal (x ∷ y ∷ z ∷ [])) ∷ decoded rest
octal-first x y z rest p q r = rw (p, q, r) refl

not_nul-some : (b : ℕ) → 0 < b → not_nul b ≡ b
not_nul-some b h = grind (arith, nat_tests)

control-back : (b : ℕ) → b < 32 → control (b + 64) ≡ b
control-back b h =
    let t : eqb (b + 64) 63 ≡ false = grind (arith, nat_tests) in
    rw t (omega arith)

is_octal-digit : (d : ℕ) → d < 8 → is_octal (48 + d) ≡ true
is_octal-digit d h =
    let low : leb 48 (48 + d) ≡ true = grind (arith, nat_tests) in
    let high : leb (48 + d) 55 ≡ true = grind (arith, nat_tests) in
    rw (low, high) refl

octal-back : (b : ℕ) → b < 256 → octal ((48 + b / 64) ∷ (48 + b / 8 % 8) ∷ (48 + b % 8) ∷ []) ≡ b
octal-back b h = omega arith

slash-is : (k b : ℕ) (rest : List ℕ) → b ≡ k → is_octal k ≡ false → not_nul (letter k) ≡ k → decoded (92 ∷ b ∷ rest) ≡ b ∷ decoded rest
slash-is k b rest is p q =
    let Q : ℕ → Type 0 = λ x. decoded (92 ∷ x ∷ rest) ≡ x ∷ decoded rest in
    subst Q (sym is) (slash-first k rest p ∙ ap (λ x. x ∷ decoded rest) q)

special : (b : ℕ) (rest : List ℕ) → (eqb b 44 || (eqb b 92 || eqb b 94)) ≡ true → decoded (92 ∷ b ∷ rest) ≡ b ∷ decoded rest
special b rest e =
    elim (three b e) [
      | inl comma ↦ slash-is 44 b rest comma refl refl
      | inr other ↦ elim other [
        | inl slash ↦ slash-is 92 b rest slash refl refl
        | inr caret ↦ slash-is 94 b rest caret refl refl
      ]
    ]
  where
    three : (n : ℕ) → (eqb n 44 || (eqb n 92 || eqb n 94)) ≡ true → (n ≡ 44) ⊎ ((n ≡ 92) ⊎ (n ≡ 94))
    three n h = elim (either (eqb n 44) (eqb n 92 || eqb n 94) h) [
      | inl x ↦ inl (grind (arith, nat_tests))
      | inr y ↦ elim (either (eqb n 92) (eqb n 94) y) [
        | inl z ↦ inr (inl (grind (arith, nat_tests)))
        | inr z ↦ inr (inr (grind (arith, nat_tests)))
      ]
    ]

pub printed-first : (b : ℕ) (rest : List ℕ) → 0 < b → b < 256 → decoded (printed_byte b ++ rest) ≡ b ∷ decoded rest
printed-first b rest some small =
    let P : List ℕ → Type 0 = λ xs. decoded (xs ++ rest) ≡ b ∷ decoded rest in
    by_test P (eqb b 27) (92 ∷ 69 ∷ []) _
    (λ e. let is : b ≡ 27 = grind (arith, nat_tests) in rw is (slash-first 69 rest refl))
    (λ n27. by_test P (ltb b 32) (94 ∷ (b + 64) ∷ []) _
    (λ e. let low : b < 32 = grind (arith, nat_tests) in caret-first (b + 64) rest ∙ ap (λ x. not_nul x ∷ decoded rest) (control-back b low) ∙ ap (λ x. x ∷ decoded rest) (not_nul-some b some))
    (λ n32. by_test P (eqb b 127) (94 ∷ 63 ∷ []) _
    (λ e. let is : b ≡ 127 = grind (arith, nat_tests) in rw is refl)
    (λ n127. by_test P (eqb b 32) (92 ∷ 115 ∷ []) _
    (λ e. let is : b ≡ 32 = grind (arith, nat_tests) in rw is (slash-first 115 rest refl))
    (λ nblank. by_test P (eqb b 44 || (eqb b 92 || eqb b 94)) (92 ∷ b ∷ []) _
    (λ e. special b rest e)
    (λ nspecial. by_test P (ltb b 128) (b ∷ []) _
    (λ e. plain-first b rest (grind (arith, nat_tests)) (grind (arith, nat_tests)) ∙ ap (λ x. x ∷ decoded rest) (not_nul-some b some))
    (λ high. octal-first (48 + b / 64) (48 + b / 8 % 8) (48 + b % 8) rest (is_octal-digit (b / 64) (omega arith)) (is_octal-digit (b / 8 % 8) (omega arith)) (is_octal-digit (b % 8) (omega arith)) ∙ ap (λ x. not_nul x ∷ decoded rest) (octal-back b small) ∙ ap (λ x. x ∷ decoded rest) (not_nul-some b some)))))))

pub decoded-printed_text : (text : List ℕ) → IsText text → decoded (printed_text text) ≡ text
decoded-printed_text [] h = refl
decoded-printed_text (b ∷ bs) h =
    printed-first b (printed_text bs) h.0 h.1 ∙ ap (λ xs. b ∷ xs) (decoded-printed_text bs h.2)
