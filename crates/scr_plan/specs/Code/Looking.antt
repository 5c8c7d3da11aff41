-- Looking for the places of a row that differ.
use Rattle.std.specs.Prelude.{ℕ, ◌≡◌, ◌-◌, ◌<◌, ◌≤◌, ◌⊎◌, Bool, true, false, List, length, filter, find, Option}
use Rattle.std.specs.List.{range_with_len}
use Rattle.scr_cells.specs.LookViews.{LookView, blank}
use Rattle.scr_cells.specs.PictureViews.{PictureView}
use Rattle.scr_plan.specs.Code.Painters.{painter_look, row_differs}
use Rattle.scr_plan.specs.Repaints.{look_eq}
use Rattle.scr_plan.specs.declared.looking.Rest.{Rest}
use Rattle.scr_plan.specs.declared.painting.Painter.{Painter}

-- a column in which a row that shows this differs
abbrev pub differs_in : Painter → PictureView → ℕ → Option (List LookView) → ℕ → Bool
differs_in painter picture row before c = row_differs painter picture before (row, c)

-- the blanks that a part of a row ends with, right after another place or all of the part; the first of them that differs, and how many do
pub record IsRest (painter : Painter) (picture : PictureView) (row : ℕ) (before : Option (List LookView)) (from end : ℕ) (rest : Rest) : Type 0 where
  pub low : from ≤ rest.begin
  pub high : rest.begin ≤ end
  pub blanks : (c : ℕ) → rest.begin ≤ c → c < end → look_eq (painter_look painter picture (row, c)) blank ≡ true
  pub edge : (rest.begin ≡ from) ⊎ ((from < rest.begin) × (look_eq (painter_look painter picture (row, rest.begin - 1)) blank ≡ false))
  pub first : rest.first ≡ find (differs_in painter picture row before) (range_with_len rest.begin (end - rest.begin))
  pub count : rest.count ≡ length (filter (differs_in painter picture row before) (range_with_len rest.begin (end - rest.begin)))
