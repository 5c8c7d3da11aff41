-- A script cut into lines.
use Rattle.std.proofs.Common.{◌≡◌, ◌≢◌, ℕ, ◌<◌, ◌==◌, refl, sym, ◌∙◌, ap, arith, List, [], ◌∷◌, length, Option, Some, None, unwrap_or}
use Rattle.std.specs.List.{slice_split}
use Rattle.std.proofs.lemmas.List.Splits.{length-slice_split}
use Rattle.screen_scripts.specs.Lines.{lines_of, without_empty_end}
use Rattle.screen_calls.specs.Fields.{parts_after}

-- ---- lines

parts_more : (line : List ℕ) (parts : List (List ℕ)) → 0 < length parts → without_empty_end (line ∷ parts) ≡ line ∷ without_empty_end parts
parts_more line [] h = absurd (omega arith)
parts_more [] (part ∷ parts) h = refl
parts_more (b ∷ line) (part ∷ parts) h = refl

last_line : (line : List ℕ) → line ≢ [] → without_empty_end (line ∷ []) ≡ line ∷ []
last_line [] h = absurd (h refl)
last_line (b ∷ line) h = refl

-- the first line, and the lines of what follows its end
pub first_line : (rest line : List ℕ) (after : Option (List ℕ)) → 0 < length rest
    → slice_split (λ b. b == 10) rest ≡ line ∷ parts_after 10 after → (after ≡ None → line ≡ rest)
    → lines_of rest ≡ line ∷ lines_of (unwrap_or after [])
first_line rest line None some split whole =
    let here : line ≢ [] = λ e. absurd (omega (arith, ap length (sym e ∙ whole refl))) in
    ap without_empty_end split ∙ last_line line here
first_line rest line (Some after) some split whole =
    ap without_empty_end split ∙ parts_more line (slice_split (λ b. b == 10) after) (omega (arith, length-slice_split (λ b. b == 10) after))

pub first_of_more : (rest line after : List ℕ) → 0 < length rest → slice_split (λ b. b == 10) rest ≡ line ∷ parts_after 10 (Some after) → lines_of rest ≡ line ∷ lines_of after
first_of_more rest line after some split = first_line rest line (Some after) some split (λ e. absurd (nothing e))
  where
    nothing : Some after ≡ None → ⊥
    nothing e = (cc)
