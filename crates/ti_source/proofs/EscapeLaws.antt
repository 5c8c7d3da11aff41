-- Facts on the escapes of a text.
use Rattle.std.proofs.Common.{◌≡◌, ◌∙◌, ℕ, zero, suc, ◌-◌, ◌<◌, Bool, true, false, ◌&&◌, ◌||◌, eqb, cond, List, [], ◌∷◌, ◌++◌, take, drop, length, refl, ap, sym, append_assoc, append-nil, arith, lit<}
use Rattle.std.proofs.lemmas.List.{take_rest}
use Rattle.ti_caps.specs.Description.{has_nul}
use Rattle.ti_source.specs.Reading.Escape.{begins_octal, decoded, decoded_after, meant, not_nul, written_length}

-- bytes that belong to a character before are passed over
pub decoded_after-drop : (k : ℕ) (bs : List ℕ) → decoded_after k bs ≡ decoded_after 0 (drop k bs)
decoded_after-drop zero [] = refl
decoded_after-drop (suc k) [] = refl
decoded_after-drop zero (b ∷ bs) = refl
decoded_after-drop (suc k) (b ∷ bs) = decoded_after-drop k bs

written_length-some : (bs : List ℕ) → 0 < written_length bs
written_length-some [] = omega arith
written_length-some (b ∷ []) = omega arith
written_length-some (b ∷ c ∷ bs) = some (eqb b 92 && begins_octal (c ∷ bs)) (eqb b 92 || eqb b 94)
  where
    some : (s t : Bool) → 0 < cond s 4 (cond t 2 1)
    some true t = lit< tt
    some false true = lit< tt
    some false false = lit< tt

-- the first character, and the text after it
pub decoded-step : (bs : List ℕ) → 0 < length bs → decoded bs ≡ not_nul (meant bs) ∷ decoded (drop (written_length bs) bs)
decoded-step [] h = absurd (omega arith)
decoded-step (b ∷ bs) h =
    let some = written_length-some (b ∷ bs) in
    let n : written_length (b ∷ bs) ≡ suc (written_length (b ∷ bs) - 1) = omega arith in
    let skips : drop (written_length (b ∷ bs)) (b ∷ bs) ≡ drop (written_length (b ∷ bs) - 1) bs = subst_drop (written_length (b ∷ bs)) (written_length (b ∷ bs) - 1) n in
    ap (λ more. not_nul (meant (b ∷ bs)) ∷ more) (decoded_after-drop (written_length (b ∷ bs) - 1) bs ∙ ap decoded (sym skips))
  where
    subst_drop : (m k : ℕ) → m ≡ suc k → drop m (b ∷ bs) ≡ drop k bs
    subst_drop m k e = rw e refl

-- one more character of a text
pub decoded-more : (text out more rest : List ℕ) (n v : ℕ) → 0 < length rest → n ≡ written_length rest → v ≡ not_nul (meant rest) → more ≡ out ++ v ∷ [] → out ++ decoded rest ≡ text → more ++ decoded (take (length rest - n) (drop n rest)) ≡ text
decoded-more text out more rest n v some length-is value-is more-is whole =
    rw (take_rest rest n, more-is, append_assoc, length-is, value-is, ← decoded-step rest some) whole

not_nul-some : (v : ℕ) → eqb (not_nul v) 0 ≡ false
not_nul-some v = by (eqb v 0) refl
  where
    by : (t : Bool) → eqb v 0 ≡ t → eqb (cond t 128 v) 0 ≡ false
    by true e = refl
    by false e = e

-- no byte 0 comes from a text
pub decoded_after-whole : (k : ℕ) (bs : List ℕ) → has_nul (decoded_after k bs) ≡ false
decoded_after-whole k [] = refl
decoded_after-whole zero (b ∷ bs) = rw (not_nul-some (meant (b ∷ bs))) (decoded_after-whole (written_length (b ∷ bs) - 1) bs)
decoded_after-whole (suc k) (b ∷ bs) = decoded_after-whole k bs

pub decoded-end : (out text rest : List ℕ) → length rest ≡ 0 → out ++ decoded rest ≡ text → out ≡ text
decoded-end out text [] none all = sym (append-nil out) ∙ all
decoded-end out text (b ∷ bs) none all = absurd (omega arith)
