-- Laws of lines, edits and bytes.
use Rattle.std.specs.Prelude.{◌≡◌, ◌⊎◌, ◌<◌, ℕ, true, List, [], ◌∷◌, length, Some}
use Rattle.edit_text.specs.declared.parts.TextPart.{TextPart}
use Rattle.edit_text.specs.declared.places.TextPlace.{TextPlace}
use Rattle.edit_text.specs.Lines.{AreLines, IsPartAt, bytes_of, deleted, inserted, is_inside, line_at, offset, split_at, with_bytes, without_bytes}
use Rattle.edit_text.specs.Finds.{StandsAt}
use Rattle.edit_text.specs.Parts.{BeginsWith, IsWithin, spelled}

-- lines are determined by the bytes of their file
abbrev pub BytesTellLines : Type 0
BytesTellLines = (a b : List (List ℕ)) → AreLines a → AreLines b → bytes_of a ≡ bytes_of b → a ≡ b

-- what edits do to the bytes of a file: an insertion inserts the bytes of its part, a split a line feed, and a deletion
-- removes those of its part, each at the place's offset
pub record EditsChangeOnePart : Type 0 where
  pub insertion : (lines : List (List ℕ)) (place : TextPlace) (bytes : List ℕ) → is_inside lines place ≡ true → bytes_of (inserted lines place bytes) ≡ with_bytes (bytes_of lines) (offset lines place) bytes
  pub split : (lines : List (List ℕ)) (place : TextPlace) → is_inside lines place ≡ true → bytes_of (split_at lines place) ≡ with_bytes (bytes_of lines) (offset lines place) (10 ∷ [])
  pub deletion : (lines : List (List ℕ)) (place : TextPlace) (part : TextPart) → is_inside lines place ≡ true → IsPartAt lines place (Some part) → bytes_of (deleted lines place part) ≡ without_bytes (bytes_of lines) (offset lines place) (length (spelled part))

-- some bytes begin with a whole part: a character above ASCII that takes one column, or a byte of ASCII
abbrev pub BeginsWhole : List ℕ → Type 0
BeginsWhole bytes = ((character : ℕ) × BeginsWith bytes character) ⊎ ((byte : ℕ) × (rest : List ℕ) × (bytes ≡ byte ∷ rest) × (byte < 128))

-- such bytes occur only between parts, since no character's bytes begin within another's
abbrev pub OccurBetweenParts : Type 0
OccurBetweenParts = (lines : List (List ℕ)) (bytes : List ℕ) (place : TextPlace) → BeginsWhole bytes → StandsAt lines bytes place → (start : ℕ) → ¬ IsWithin (line_at lines place.line) start place.column
