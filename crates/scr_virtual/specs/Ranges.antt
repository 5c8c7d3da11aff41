-- Ranges of columns: for each row of a screen a first and a last column, or none.
use Rattle.std.specs.Prelude.{ℕ, Bool, false, ◌≡◌, ◌<◌, ◌≤◌, ◌⊎◌, ◌&&◌, leb, min, max, if◌then◌else◌, List, [], ◌∷◌, All, length, map, slice_index_or, Option, None, Some, IfSome}
use Rattle.std.specs.List.{range_with_len}

-- The first column is not after the last, and both are on the screen.
abbrev pub IsRange : ℕ → ℕ × ℕ → Type 0
IsRange columns range = (range.0 ≤ range.1) × (range.1 < columns)

-- Each of these is a range, or none.
abbrev pub AreRanges : ℕ → List (Option (ℕ × ℕ)) → Type 0
AreRanges columns ranges = All (λ range. IfSome range (IsRange columns)) ranges

-- The column is in the range.
abbrev pub in_range : Option (ℕ × ℕ) → ℕ → Bool
in_range None c = false
in_range (Some range) c = leb range.0 c && leb c range.1

-- Only rows from `first` up to, but not including, `end` may have a range.
abbrev pub AreNoneOutside : List (Option (ℕ × ℕ)) → ℕ → ℕ → Type 0
AreNoneOutside ranges first end = (r : ℕ) → (r < first) ⊎ (end ≤ r) → slice_index_or ranges r None ≡ None

-- The smallest range that holds both.
abbrev pub joined : Option (ℕ × ℕ) → Option (ℕ × ℕ) → Option (ℕ × ℕ)
joined None range = range
joined (Some other) None = Some other
joined (Some other) (Some range) = Some (min other.0 range.0, max other.1 range.1)

-- The smallest range that holds this one and all of these columns.
abbrev pub joined_by : List ℕ → Option (ℕ × ℕ) → Option (ℕ × ℕ)
joined_by [] range = range
joined_by (c ∷ more) range = joined_by more (joined (Some (c, c)) range)

-- The ranges of some rows are changed by a function of the row and its range; the others stay.
abbrev pub ranges_with : (ℕ → Bool) → (ℕ → Option (ℕ × ℕ) → Option (ℕ × ℕ)) → List (Option (ℕ × ℕ)) → List (Option (ℕ × ℕ))
ranges_with rows f ranges = map (λ r. if rows r then f r (slice_index_or ranges r None) else slice_index_or ranges r None) (range_with_len 0 (length ranges))
