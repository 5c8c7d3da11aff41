-- Positions that are set one after another.
use Rattle.std.proofs.Common.{◌≡◌, ℕ, ◌+◌, ◌-◌, ◌<◌, ◌||◌, not, Bool, true, false, cond, refl, sym, ◌∙◌, ap, arith, suc, List, [], ◌∷◌, ◌++◌, append_assoc, length, length-append, take, replicate, set}
use Rattle.std.specs.Prelude.{Result, Ok, Err, OnOk, IsOk}
use Rattle.std.specs.List.{list_any, before_first, position_or_len}
use Rattle.std.proofs.lemmas.Bool.{false≢true}
use Rattle.std.proofs.lemmas.List.{set-append_right}
use Rattle.ti_binary.specs.Files.{is_nul, padded}

set_next : {A : Type 0} (said back : List A) (old new : A) (n : ℕ) → length said ≡ n → set (said ++ old ∷ back) n new ≡ said ++ new ∷ back
set_next said back old new n e =
    let here : n - n ≡ 0 = omega arith in
    set-append_right said (old ∷ back) n n new e (omega arith) ∙ rw here refl

-- the position after those that were said is said now
pub padded_more : {A : Type 0} (count : ℕ) (absent new : A) (said : List A) (n : ℕ) → length said ≡ n → n < count
    → set (padded count absent said) n new ≡ padded count absent (said ++ new ∷ [])
padded_more count absent new said n e lt =
    let left : count - length said ≡ suc (count - length (said ++ new ∷ [])) = omega (arith, e, length-append said (new ∷ [])) in
    ap (λ k. set (said ++ replicate k absent) n new) left
    ∙ set_next said (replicate (count - length (said ++ new ∷ [])) absent) absent new n e
    ∙ sym (append_assoc said (new ∷ []) (replicate (count - length (said ++ new ∷ [])) absent))

no_nul_step : (x : ℕ) (xs : List ℕ) (b : Bool) → is_nul x ≡ b → list_any is_nul (before_first is_nul xs) ≡ false
    → list_any is_nul (take (cond (not b) (1 + position_or_len is_nul xs) 0) (x ∷ xs)) ≡ false
no_nul_step x xs true e h = refl
no_nul_step x xs false e h =
    let one : 1 + position_or_len is_nul xs ≡ suc (position_or_len is_nul xs) = omega arith in
    ap (λ k. list_any is_nul (take k (x ∷ xs))) one ∙ ap (λ b. b || list_any is_nul (before_first is_nul xs)) e ∙ h

-- there is no NUL before the first one
pub no_nul : (xs : List ℕ) → list_any is_nul (before_first is_nul xs) ≡ false
no_nul [] = refl
no_nul (x ∷ xs) = no_nul_step x xs (is_nul x) refl (no_nul xs)

-- what holds of a call that is answered Ok
pub on_ok : {A E : Type 0} {P : Type 0} (r : Result A E) → OnOk r P → IsOk r → P
on_ok (Ok x) h k = h
on_ok (Err e) h k = absurd (false≢true k)
