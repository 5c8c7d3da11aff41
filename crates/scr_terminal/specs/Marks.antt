-- Which columns of which rows may have changed.
use Rattle.std.specs.Prelude.{ℕ, ◌≡◌, ◌<◌, ◌≤◌, ◌⊎◌, ◌&&◌, leb, ltb, Bool, false, List, length, slice_index_or}
use Rattle.scr_cells.specs.Grids.{grid_at}
use Rattle.scr_cells.specs.LookViews.{LookView, blank}
use Rattle.scr_cells.specs.PictureViews.{IsSize}

-- The size of the screen; for each row the first of these columns, and their end; the first row that has some, and the
-- end of these rows.
pub record MarksView : Type 0 where
  pub rows : ℕ
  pub columns : ℕ
  pub ranges : List (ℕ × ℕ)
  pub first : ℕ
  pub end : ℕ

-- No columns.
abbrev pub no_columns : ℕ × ℕ
no_columns = (4294967295, 0)

-- The first marked column of a row, and the end of the marked ones; the end is not behind the first, if there are none.
abbrev pub marked_in : MarksView → ℕ → ℕ × ℕ
marked_in marks r = slice_index_or marks.ranges r no_columns

-- The place is marked.
abbrev pub is_marked : MarksView → ℕ → ℕ → Bool
is_marked marks r c = leb (marked_in marks r).0 c && ltb c (marked_in marks r).1

-- Valid marks: a range for each row, inside the screen, and none in the rows outside the first and the last.
pub record IsMarks (marks : MarksView) : Type 0 where
  pub size : IsSize marks.rows marks.columns
  pub high : length marks.ranges ≡ marks.rows
  pub wide : (r : ℕ) → (marked_in marks r).1 ≤ marks.columns
  pub last : marks.end ≤ marks.rows
  pub outside : (r : ℕ) → (r < marks.first) ⊎ (marks.end ≤ r) → (marked_in marks r).1 ≡ 0

-- They are of a screen of this size.
pub record AreOfSize (high wide : ℕ) (marks : MarksView) : Type 0 where
  pub rows : marks.rows ≡ high
  pub columns : marks.columns ≡ wide

-- No place is marked.
abbrev pub AreNone : MarksView → Type 0
AreNone marks = (r c : ℕ) → is_marked marks r c ≡ false

-- These places are marked now, and those that were marked before.
abbrev pub HasAdded : (ℕ → ℕ → Bool) → MarksView → MarksView → Type 0
HasAdded inside old new = (r c : ℕ) → r < old.rows → is_marked new r c ≡ false → (is_marked old r c ≡ false) × (inside r c ≡ false)

-- Each place that changed from one grid to another is marked now, and so are those that were marked before.
abbrev pub HasMarked : (old new : List (List LookView)) (before after : MarksView) → Type 0
HasMarked old new before after =
    (r c : ℕ) → r < before.rows → c < before.columns → is_marked after r c ≡ false → (is_marked before r c ≡ false) × (grid_at blank new r c ≡ grid_at blank old r c)

-- Two grids show the same in each place that is not marked.
abbrev pub DifferInMarks : MarksView → (one other : List (List LookView)) → Type 0
DifferInMarks marks one other = (r c : ℕ) → r < marks.rows → c < marks.columns → is_marked marks r c ≡ false → grid_at blank one r c ≡ grid_at blank other r c
