-- Desks that are made.
use Rattle.std.proofs.Common.{◌≡◌, ℕ, ◌*◌, ◌<◌, ◌≤◌, ap, refl, arith, [], ◌∷◌, suc, zero, length, replicate, get_or, true}
use Rattle.std.specs.Prelude.{All, MatchOption}
use Rattle.std.proofs.lemmas.Nat.{mul-le}
use Rattle.scr_cells.specs.CellViews.{CellView, IsPair, blank_cell}
use Rattle.scr_cells.specs.PictureViews.{IsSize}
use Rattle.scr_windows.specs.declared.frames.Frame.{Frame}
use Rattle.scr_windows.specs.Surfaces.SurfaceViews.{IsSurface, IsSurfaceSize, blank_surface}
use Rattle.scr_windows.specs.Surfaces.SurfaceLaws.{SurfaceLaws}
use Rattle.scr_windows.specs.DeskViews.{IsWindow, IsPlaced, IsChild, IsDesk, no_frame, fresh_window, first_frame, first_desk, no_attributes, size_on}

length_replicate : {X : Type 0} (n : ℕ) (x : X) → length (replicate n x) ≡ n
length_replicate zero x = refl
length_replicate (suc n) x = ap suc (length_replicate n x)

pub fresh_is_window : (frame : Frame) (attrs : _) (pair : ℕ) (background : CellView) → IsPair pair → 1 ≤ frame.area.rows → 1 ≤ frame.area.columns → IsWindow (fresh_window frame attrs pair background)
fresh_is_window frame attrs pair background p h k = record {
  state = record { cursor_row = omega arith; cursor_column = omega arith; region_order = omega arith; region_end = omega arith; pair = p };
  touched = length_replicate frame.area.rows true;
}

all_one : {X : Type 0} (P : X → Type 0) (x : X) → P x → All P (x ∷ [])
all_one P x h zero d l = h
all_one P x h (suc k) d l = absurd (omega (arith, l))

pub screen_is_size : (rows columns : ℕ) → IsSize rows columns → IsSurfaceSize rows columns
screen_is_size rows columns h =
    let few : rows * columns ≤ 500 * 500 = mul-le rows columns 500 500 h.few_rows h.few_columns in
    record { some_rows = h.some_rows; some_columns = h.some_columns; few_rows = omega (arith, h.few_rows); few_columns = omega (arith, h.few_columns); few_places = omega (arith, few) }

pub first_is_desk : SurfaceLaws → (rows columns : ℕ) → IsSize rows columns → IsDesk (first_desk rows columns)
first_is_desk laws rows columns h = record {
  size = h;
  made = omega arith;
  surfaces = all_one IsSurface (blank_surface rows columns) (laws.blank rows columns (screen_is_size rows columns h));
  windows = all_one IsWindow (fresh_window (first_frame rows columns) no_attributes 0 blank_cell) (fresh_is_window (first_frame rows columns) no_attributes 0 blank_cell (omega arith) h.some_rows h.some_columns);
  frames = record {
    few = omega arith;
    placed = all_one (IsPlaced rows columns (size_on (blank_surface rows columns ∷ []))) (first_frame rows columns) (record { some_rows = h.some_rows; some_columns = h.some_columns; below = omega arith; right = omega arith; origin = (omega arith, omega arith) });
    numbers = all_one (λ (frame : Frame). frame.number ≤ 0) (first_frame rows columns) (omega arith);
    ascending = λ i j l m. absurd (omega (arith, l, m));
    own = λ i j d l m. absurd (omega (arith, l, m));
    parents = all_one (λ (frame : Frame). MatchOption frame.parent (Unit {0}) (λ number. (k : ℕ) × (k < 1) × ((get_or (first_frame rows columns ∷ []) k no_frame).number ≡ number) × IsChild frame (get_or (first_frame rows columns ∷ []) k no_frame))) (first_frame rows columns) tt;
  };
}
