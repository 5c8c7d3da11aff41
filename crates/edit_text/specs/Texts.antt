-- What a text is: its lines, the texts before it, and a count of its changes.
use Rattle.std.specs.Prelude.{ℕ, ◌+◌, ◌-◌, ◌^◌, min, ◌≡◌, true, List, [], ◌∷◌, Option, MatchOption}
use Rattle.std.specs.List.{AllByRecursion}
use Rattle.edit_text.specs.declared.places.TextPlace.{TextPlace}
use Rattle.edit_text.specs.Lines.{AreLines, is_inside}

-- an edit that can be undone: where it was made, and the lines before it
pub record Step : Type 0 where
  pub place : TextPlace
  pub lines : List (List ℕ)

-- a text: its lines, the edits that led to them, last one first, and the number of changes
pub record View : Type 0 where
  pub lines : List (List ℕ)
  pub past : List Step
  pub version : ℕ

-- the lines before an edit are lines, and it was made at a place in them
pub record IsStep (step : Step) : Type 0 where
  pub lines : AreLines step.lines
  pub place : is_inside step.lines step.place ≡ true

-- every text has lines, and every one before it
pub record IsText (text : View) : Type 0 where
  pub lines : AreLines text.lines
  pub past : AllByRecursion IsStep text.past

-- the next number of changes; it stops at the last one that 64 bits hold
abbrev pub next : ℕ → ℕ
next version = min (version + 1) (2 ^ 64 - 1)

-- a text with these lines, past and none
abbrev pub fresh : List (List ℕ) → View
fresh lines = record { lines = lines; past = []; version = 0 }

-- a text after an edit at a place that led to these lines
abbrev pub edited : View → TextPlace → List (List ℕ) → View
edited text place lines =
    record {
      lines = lines;
      past = record { place = place; lines = text.lines } ∷ text.past;
      version = next text.version;
    }

-- what undoing the last edit answers and leaves: the lines before it, one edit less, and where it was made; nothing
-- without one
abbrev pub IsUndone : View → Option TextPlace → View → Type 0
IsUndone old place new = MatchOption place ((old.past ≡ []) × (new ≡ old)) (λ p. (old.past ≡ record { place = p; lines = new.lines } ∷ new.past) × (new.version ≡ next old.version))
