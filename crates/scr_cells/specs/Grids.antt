-- Grids: rows from the top, each with its elements from the left. Pictures, surfaces and terminals' screens are grids.
use Rattle.std.specs.Prelude.{ℕ, Bool, ◌≡◌, ◌+◌, ◌-◌, ◌*◌, ◌<◌, ◌≤◌, ◌==◌, ◌&&◌, leb, ltb, if◌then◌else◌, List, [], ◌++◌, length, take, drop, map, slice_index_or, slice_set, refl}
use Rattle.std.specs.List.{range_with_len, enumerate_from}
use Rattle.std.specs.Coded.{Coded, code_by, coded×, coded_ℕ, coded_list}

-- The numbers of rows and columns, and the rows.
pub record GridView (A : Type 0) : Type 0 where
  pub rows : ℕ
  pub columns : ℕ
  pub lines : List (List A)

-- A grid is stored as its three fields.
abbrev pub grid_code : {A : Type 0} → Coded A → Coded (GridView A)
grid_code {A} code =
    code_by (ℕ × (ℕ × List (List A))) (coded× coded_ℕ (coded× coded_ℕ (coded_list (coded_list code)))) (λ g. (g.rows, (g.columns, g.lines)))
    (λ p. record { rows = p.0; columns = p.1.0; lines = p.1.1 }) (λ _. refl)

-- Row r, counted from 0 at the top; empty if there is none.
abbrev pub grid_row : {A : Type 0} → List (List A) → ℕ → List A
grid_row lines r = slice_index_or lines r []

-- The element in row r and column c; `other` if there is none.
abbrev pub grid_at : {A : Type 0} → A → List (List A) → ℕ → ℕ → A
grid_at other lines r c = slice_index_or (grid_row lines r) c other

-- The grid with one place changed.
abbrev pub grid_with : {A : Type 0} → List (List A) → ℕ → ℕ → A → List (List A)
grid_with lines r c value = slice_set lines r (slice_set (grid_row lines r) c value)

-- A row with a run of elements in place of its own from column c on.
abbrev pub line_with_run : {A : Type 0} → List A → ℕ → List A → List A
line_with_run line c run = take c line ++ run ++ drop (c + length run) line

-- The grid with such a run in row r.
abbrev pub grid_with_run : {A : Type 0} → List (List A) → ℕ → ℕ → List A → List (List A)
grid_with_run lines r c run = slice_set lines r (line_with_run (grid_row lines r) c run)

-- The elements of a run, each changed by a function of its column and itself; the first is in column `from`.
abbrev pub changed_run : {A : Type 0} → (ℕ → A → A) → ℕ → List A → List A
changed_run f from run = map (λ p. f p.0 p.1) (enumerate_from from run)

-- The grid whose element in row r and column c is f r c.
abbrev pub grid_of : {A : Type 0} → ℕ → ℕ → (ℕ → ℕ → A) → List (List A)
grid_of rows columns f = map (λ r. map (f r) (range_with_len 0 columns)) (range_with_len 0 rows)

-- The grid has this many rows and columns.
pub record IsGrid {A : Type 0} (rows columns : ℕ) (lines : List (List A)) : Type 0 where
  pub high : length lines ≡ rows
  pub wide : (r : ℕ) → r < rows → length (grid_row lines r) ≡ columns

-- A grid that takes the elements `inside` from one formula, and all others from another.
abbrev pub grid_filled : {A : Type 0} → ℕ → ℕ → (ℕ → ℕ → Bool) → (ℕ → ℕ → A) → (ℕ → ℕ → A) → List (List A)
grid_filled rows columns inside f g = grid_of rows columns (λ r c. if inside r c then f r c else g r c)

-- The places of a row from column `from` up to, but not including, `end`.
abbrev pub is_in_run : ℕ → ℕ → ℕ → ℕ → ℕ → Bool
is_in_run row from end r c = r == row && leb from c && ltb c end

-- The rows from `first` up to, but not including, `end` move up by n; the rows left free get this element.
abbrev pub rows_up : {A : Type 0} → ℕ → ℕ → ℕ → A → (ℕ → ℕ → A) → ℕ → ℕ → A
rows_up first end n x at r c = if leb first r && ltb r end then (if ltb (r + n) end then at (r + n) c else x) else at r c

-- The same, down.
abbrev pub rows_down : {A : Type 0} → ℕ → ℕ → ℕ → A → (ℕ → ℕ → A) → ℕ → ℕ → A
rows_down first end n x at r c = if leb first r && ltb r end then (if leb (first + n) r then at (r - n) c else x) else at r c

-- The places of a row from column `from` up to, but not including, `end` move left by n; the places left free get this
-- element.
abbrev pub places_left : {A : Type 0} → ℕ → ℕ → ℕ → ℕ → A → (ℕ → ℕ → A) → ℕ → ℕ → A
places_left row from end n x at r c = if is_in_run row from end r c then (if ltb (c + n) end then at r (c + n) else x) else at r c

-- The same, to the right.
abbrev pub places_right : {A : Type 0} → ℕ → ℕ → ℕ → ℕ → A → (ℕ → ℕ → A) → ℕ → ℕ → A
places_right row from end n x at r c = if is_in_run row from end r c then (if leb (from + n) c then at r (c - n) else x) else at r c

-- Laws of grids: a grid is its places; a formula's grid has what the formula gives; a changed run or place changes no
-- other place.
pub record GridLaws (A : Type 0) : Type 0 where
  pub places : (other : A) (rows columns : ℕ) (lines : List (List A)) → IsGrid rows columns lines → lines ≡ grid_of rows columns (grid_at other lines)
  pub formula : (other : A) (rows columns : ℕ) (f : ℕ → ℕ → A) (r c : ℕ) → r < rows → c < columns → grid_at other (grid_of rows columns f) r c ≡ f r c
  pub sized : (rows columns : ℕ) (f : ℕ → ℕ → A) → IsGrid rows columns (grid_of rows columns f)
  pub run : (other : A) (rows columns : ℕ) (lines : List (List A)) (row from : ℕ) (run : List A) → IsGrid rows columns lines → row < rows → from + length run ≤ columns
      → grid_with_run lines row from run ≡ grid_filled rows columns (is_in_run row from (from + length run)) (λ _ c. slice_index_or run (c - from) other) (grid_at other lines)
  pub place : (other : A) (rows columns : ℕ) (lines : List (List A)) (row column : ℕ) (value : A) → IsGrid rows columns lines → row < rows → column < columns
      → grid_with lines row column value ≡ grid_filled rows columns (is_in_run row column (column + 1)) (λ _ _. value) (grid_at other lines)

-- The rows of a list that has them one after another.
abbrev pub rows_of : {A : Type 0} → ℕ → ℕ → List A → List (List A)
rows_of rows columns items = map (λ r. take columns (drop (r * columns) items)) (range_with_len 0 rows)
