-- A surface that is changed in an area alone is filled there.
use Rattle.std.proofs.Common.{◌≡◌, ℕ, ◌+◌, ◌-◌, ◌<◌, ◌≤◌, sym, ◌∙◌, refl, arith, zero, suc, map, Bool, cond, ltb, leb, ◌&&◌, true, false}
use Rattle.std.specs.List.{range_with_len}
use Rattle.std.proofs.lemmas.Bool.Decides.{nat_tests}
use Rattle.scr_cells.specs.CellViews.{CellView}
use Rattle.scr_cells.specs.Grids.{grid_of}
use Rattle.scr_windows.specs.declared.surfaces.areas.Area.{Area}
use Rattle.scr_windows.specs.Code.Steps.{Changes}
use Rattle.scr_windows.specs.Surfaces.SurfaceViews.{SurfaceView, cell_of, is_inside, inside_at, filled}

pub map_range : {X : Type 0} (f g : ℕ → X) (a n : ℕ) → ((k : ℕ) → a ≤ k → k < a + n → f k ≡ g k) → map f (range_with_len a n) ≡ map g (range_with_len a n)
map_range f g a zero h = refl
map_range f g a (suc n) h =
    let e : f a ≡ g a = h a (omega arith) (omega arith) in
    let rest : map f (range_with_len (a + 1) n) ≡ map g (range_with_len (a + 1) n) = map_range f g (a + 1) n (λ k l m. h k (omega arith) (omega arith)) in
    cc

pub grid_same : (rows columns : ℕ) (f g : ℕ → ℕ → CellView) → ((r c : ℕ) → r < rows → c < columns → f r c ≡ g r c) → grid_of rows columns f ≡ grid_of rows columns g
grid_same rows columns f g h = map_range _ _ 0 rows (λ r z b. map_range (f r) (g r) 0 columns (λ c y k. h r c (omega arith) (omega arith)))

cond_at : {X : Type 0} (b : Bool) (x y z : X) → (b ≡ true → z ≡ x) → (b ≡ false → z ≡ y) → z ≡ cond b x y
cond_at true x y z h k = h refl
cond_at false x y z h k = k refl

pub is_inside_tells : (area : Area) (r c : ℕ) → is_inside area r c ≡ true → (area.top ≤ r) × (r < area.top + area.rows) × (area.left ≤ c) × (c < area.left + area.columns)
is_inside_tells area r c t = tells area.top area.left area.rows area.columns r c t
  where
    tells : (top left rows columns r c : ℕ) → (leb top r && ltb r (top + rows) && leb left c && ltb c (left + columns)) ≡ true → (top ≤ r) × (r < top + rows) × (left ≤ c) × (c < left + columns)
    tells top left rows columns r c t = (grind (arith, nat_tests), grind (arith, nat_tests), grind (arith, nat_tests), grind (arith, nat_tests))

ap2 : {X Y Z : Type 0} (f : X → Y → Z) {a b : X} {c d : Y} → a ≡ b → c ≡ d → f a c ≡ f b d
ap2 f p q = λ i. f (p i) (q i)

-- a surface that is changed in an area alone is filled there
pub filled_is : (old new : SurfaceView) (area : Area) (f : (ℕ → ℕ → CellView) → ℕ → ℕ → CellView) → Changes old new area f → new ≡ filled old area (f (inside_at old area))
unfolding filled
filled_is old new area f h =
    let g : ℕ → ℕ → CellView = f (inside_at old area) in
    let lines : grid_of new.rows new.columns (cell_of new) ≡ grid_of old.rows old.columns (λ r c. cond (is_inside area r c) (g (r - area.top) (c - area.left)) (cell_of old r c))
    = (λ i. grid_of (h.same_rows i) (h.same_columns i) (cell_of new)) ∙ grid_same old.rows old.columns _ _ (λ r c l k. cond_at (is_inside area r c) _ _ _
    (λ t. let w = is_inside_tells area r c t in let y : area.top + (r - area.top) ≡ r = omega arith in let x : area.left + (c - area.left) ≡ c = omega arith in
    ap2 (cell_of new) (sym y) (sym x) ∙ h.inside (r - area.top) (c - area.left) (omega arith) (omega arith))
    (λ t. h.outside r c l k t)) in
    λ i. record { rows = h.same_rows i; columns = h.same_columns i; lines = (h.surface.whole ∙ lines) i }
