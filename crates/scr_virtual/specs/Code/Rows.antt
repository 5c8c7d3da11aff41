-- The rows that may have a range: words of private functions.
use Rattle.std.specs.Prelude.{ℕ, false, ◌≡◌, ◌≤◌, ◌-◌, ltb, if◌then◌else◌, List, length, slice_index_or, Option, None, Some, IfSome}
use Rattle.scr_virtual.specs.Ranges.{IsRange, in_range, joined}

-- there are no more rows than a screen may have; none but those from a first to a last has a range, and where they are none, no
-- row has one
pub record HoldRanges (rows : Option (ℕ × ℕ)) (ranges : List (Option (ℕ × ℕ))) : Type 0 where
  pub few : length ranges ≤ 500
  pub inside : IfSome rows (IsRange (length ranges))
  pub others : (r : ℕ) → in_range rows r ≡ false → slice_index_or ranges r None ≡ None

-- the first and the last of some rows and of those from one up to another
abbrev pub with_rows : ℕ → ℕ → Option (ℕ × ℕ) → Option (ℕ × ℕ)
with_rows first end rows = if ltb first end then joined (Some (first, end - 1)) rows else rows
