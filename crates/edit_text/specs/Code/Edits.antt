-- What is kept of an edit, and what undoing it gives.
use Rattle.std.specs.Prelude.{◌≡◌, ℕ, suc, ◌+◌, ◌<◌, ◌≤◌, List, [], ◌∷◌, length}
use Rattle.edit_text.specs.declared.places.TextPlace.{TextPlace}
use Rattle.edit_text.specs.declared.edits.Edit.{Edit}
use Rattle.edit_text.specs.declared.edits.Edit.TheVariants.{Inserted, Deleted, Split, Joined}
use Rattle.edit_text.specs.Lines.{line_at, inserted, removed, split_at, joined}
use Rattle.edit_text.specs.Parts.{spelled}
use Rattle.edit_text.specs.Texts.{Step}

-- where an edit was made
abbrev pub place_of : Edit → TextPlace
place_of (Inserted place part) = place
place_of (Deleted place part) = place
place_of (Split place) = place
place_of (Joined place) = place

-- the lines before an edit that led to these
abbrev pub undone : Edit → List (List ℕ) → List (List ℕ)
undone (Inserted place part) lines = removed lines place (length (spelled part))
undone (Deleted place part) lines = inserted lines place (spelled part)
undone (Split place) lines = joined lines place.line
undone (Joined place) lines = split_at lines place

-- what the lines after an edit have to hold to undo it
abbrev pub CanUndo : Edit → List (List ℕ) → Type 0
CanUndo (Inserted place part) lines = (place.line < length lines) × (place.column + length (spelled part) ≤ length (line_at lines place.line))
CanUndo (Deleted place part) lines = (place.line < length lines) × (place.column ≤ length (line_at lines place.line))
CanUndo (Split place) lines = suc place.line < length lines
CanUndo (Joined place) lines = (place.line < length lines) × (place.column ≤ length (line_at lines place.line))

-- the last edit as a step
abbrev pub step_of : Edit → List (List ℕ) → Step
step_of edit lines = record { place = place_of edit; lines = undone edit lines }

-- edits as steps, both last one first
abbrev pub past_of : List Edit → List (List ℕ) → List Step
past_of [] lines = []
past_of (edit ∷ edits) lines = step_of edit lines ∷ past_of edits (undone edit lines)

-- each of these edits, last one first, can be undone
abbrev pub CanUndoAll : List Edit → List (List ℕ) → Type 0
CanUndoAll [] lines = Unit {0}
CanUndoAll (edit ∷ edits) lines = CanUndo edit lines × CanUndoAll edits (undone edit lines)

-- this is the edit at a place that led from the old lines to the new ones
pub record Undoes (edit : Edit) (place : TextPlace) (old new : List (List ℕ)) : Type 0 where
  pub at : place_of edit ≡ place
  pub can : CanUndo edit new
  pub back : undone edit new ≡ old
