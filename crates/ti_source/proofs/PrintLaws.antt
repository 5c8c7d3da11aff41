-- Printing slot by slot.
use Rattle.std.proofs.Common.{◌≡◌, ℕ, suc, ◌+◌, ◌<◌, ◌∙◌, List, ◌++◌, slice_index_or, get_or, drop, length, ap, sym, append_assoc, add-one}
use Rattle.std.proofs.lemmas.List.{drop_more}
use Rattle.ti_source.specs.Printing.Print.{lines_from}

-- the line of one more slot
pub lines_from-more : {A : Type 0} → (line : ℕ → A → List ℕ) (out : List ℕ) (xs : List A) (i : ℕ) (d : A) → i < length xs → out ++ lines_from line i (drop i xs) ≡ (out ++ line i (get_or xs i d)) ++ lines_from line (i + 1) (drop (i + 1) xs)
lines_from-more line out xs i d lt =
    rw (drop_more xs i d lt, add-one) (sym (append_assoc out (line i (get_or xs i d)) (lines_from line (suc i) (drop (suc i) xs))))

-- what was written so far and what is left give the same all after the line of one more slot
pub lines_from-step : {A : Type 0} → (line : ℕ → A → List ℕ) (out after all : List ℕ) (xs : List A) (i : ℕ) (d : A) → i < length xs → out ++ lines_from line i (drop i xs) ≡ all → after ≡ out ++ line i (slice_index_or xs i d) → after ++ lines_from line (i + 1) (drop (i + 1) xs) ≡ all
lines_from-step line out after all xs i d lt so-far one-more =
    ap (λ text. text ++ lines_from line (i + 1) (drop (i + 1) xs)) one-more ∙ sym (lines_from-more line out xs i d lt) ∙ so-far
