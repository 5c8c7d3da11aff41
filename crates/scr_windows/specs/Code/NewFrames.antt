-- Words of private functions: where a window that is made, or gets another size, may lie.
use Rattle.std.specs.Prelude.{ℕ, Option, ◌+◌, ◌≤◌, MatchOption}
use Rattle.scr_windows.specs.declared.surfaces.areas.Area.{Area}
use Rattle.scr_windows.specs.DeskViews.{DeskView, IsInsideOnScreen, window_at}
use Rattle.scr_windows.specs.Surfaces.SurfaceViews.{IsSurfaceSize}

-- a part of a window's area, and the place of its first row and column on the screen
pub record IsChildPlace (desk : DeskView) (i : ℕ) (area : Area) (origin : Option (ℕ × ℕ)) : Type 0 where
  pub some_rows : 1 ≤ area.rows
  pub some_columns : 1 ≤ area.columns
  pub above : (window_at desk i).frame.area.top ≤ area.top
  pub below : area.top + area.rows ≤ (window_at desk i).frame.area.top + (window_at desk i).frame.area.rows
  pub left : (window_at desk i).frame.area.left ≤ area.left
  pub right : area.left + area.columns ≤ (window_at desk i).frame.area.left + (window_at desk i).frame.area.columns
  pub on_screen : MatchOption origin (Unit {0}) (λ place. (place.0 + area.rows ≤ desk.rows) × (place.1 + area.columns ≤ desk.columns))
  pub in_parent : IsInsideOnScreen origin area (window_at desk i).frame.origin (window_at desk i).frame.area

-- where a window with a surface of its own is on the screen
pub record IsRootPlace (desk : DeskView) (rows columns : ℕ) (origin : Option (ℕ × ℕ)) : Type 0 where
  pub size : IsSurfaceSize rows columns
  pub on_screen : MatchOption origin (Unit {0}) (λ place. (place.0 + rows ≤ desk.rows) × (place.1 + columns ≤ desk.columns))
