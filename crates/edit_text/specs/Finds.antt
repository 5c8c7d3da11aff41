-- Where bytes occur in a text, and which such place is found.
use Rattle.std.specs.Prelude.{◌≡◌, ℕ, ◌<◌, Bool, false, List, length, take, drop, Option, MatchOption, ◌&&◌, ◌||◌, if◌then◌else◌}
use Rattle.edit_text.specs.declared.places.TextPlace.{TextPlace}
use Rattle.edit_text.specs.Lines.{line_at}
use Rattle.edit_text.specs.Places.{is_before}

-- these bytes, at least one, are in the line of this place from its column on
pub record StandsAt (lines : List (List ℕ)) (bytes : List ℕ) (place : TextPlace) : Type 0 where
  pub some : 0 < length bytes
  pub there : take (length bytes) (drop place.column (line_at lines place.line)) ≡ bytes

-- whether a place comes before another when places are read from `from` to the end, and then from the beginning
abbrev pub comes_first : TextPlace → TextPlace → TextPlace → Bool
comes_first from p q =
    if is_before p from then is_before q from && is_before p q else is_before q from || is_before p q

-- the first place, in this order, at which these bytes occur; none if they occur nowhere
abbrev pub IsFound : List (List ℕ) → TextPlace → List ℕ → Option TextPlace → Type 0
IsFound lines from bytes found =
    MatchOption found
    ((p : TextPlace) → ¬ StandsAt lines bytes p)
    (λ place. StandsAt lines bytes place × ((p : TextPlace) → StandsAt lines bytes p → comes_first from p place ≡ false))
