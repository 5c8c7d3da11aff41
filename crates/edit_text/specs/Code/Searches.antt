-- What the parts of a search find.
use Rattle.std.specs.Prelude.{◌≡◌, ℕ, ◌<◌, ◌≤◌, true, false, List, length, take, drop, Option, MatchOption, ◌==◌, if◌then◌else◌}
use Rattle.edit_text.specs.declared.places.TextPlace.{TextPlace}
use Rattle.edit_text.specs.Places.{is_before}
use Rattle.edit_text.specs.Finds.{StandsAt}

-- some bytes are in a line from this column on
abbrev pub IsAt : List ℕ → List ℕ → ℕ → Type 0
IsAt line bytes column = take (length bytes) (drop column line) ≡ bytes

-- the column from which a line is searched, from a place on
abbrev pub start_in : ℕ → TextPlace → ℕ
start_in line from = if line == from.line then from.column else 0

-- the first column from `start` on at which these bytes are; none if there is no such column
abbrev pub IsFirstColumn : List ℕ → ℕ → List ℕ → Option ℕ → Type 0
IsFirstColumn line start bytes found =
    MatchOption found
    ((c : ℕ) → start ≤ c → ¬ IsAt line bytes c)
    (λ column. (start ≤ column) × IsAt line bytes column × ((c : ℕ) → start ≤ c → c < column → ¬ IsAt line bytes c))

-- the first place from `from` on at which these bytes occur; none if they occur only before it
abbrev pub IsFirstFrom : List (List ℕ) → TextPlace → List ℕ → Option TextPlace → Type 0
IsFirstFrom lines from bytes found =
    MatchOption found
    ((p : TextPlace) → StandsAt lines bytes p → is_before p from ≡ true)
    (λ place. StandsAt lines bytes place × (is_before place from ≡ false) × ((p : TextPlace) → StandsAt lines bytes p → is_before p from ≡ false → is_before p place ≡ false))

-- where these bytes occur from a place on is in no line before this one
abbrev pub AreNoneBefore : List (List ℕ) → TextPlace → List ℕ → ℕ → Type 0
AreNoneBefore lines from bytes line = (p : TextPlace) → StandsAt lines bytes p → is_before p from ≡ false → line ≤ p.line
