-- A surface is its places.
use Rattle.std.proofs.Common.{◌≡◌, ℕ, ◌-◌, ◌<◌, sym, ◌∙◌, refl, arith, cond, Bool, true, false, ltb, ◌&&◌}
use Rattle.scr_cells.specs.CellViews.{CellView, blank_cell}
use Rattle.scr_cells.specs.Grids.{GridLaws, grid_of}
use Rattle.scr_windows.specs.declared.surfaces.areas.Area.{Area}
use Rattle.scr_windows.specs.Surfaces.SurfaceLaws.{SurfaceLaws}
use Rattle.scr_windows.specs.Surfaces.SurfaceViews.{SurfaceView, IsSurface, IsSurfaceSize, cell_of, filled, inside_at, is_inside, resized_surface}
use Rattle.scr_windows.proofs.FilledLaws.{grid_same, is_inside_tells}
use Rattle.scr_windows.proofs.RunLaws.{lines_at, whole_of}

cond_same : {X : Type 0} (b : Bool) (x y z : X) → (b ≡ true → x ≡ y) → cond b x z ≡ cond b y z
cond_same true x y z h = h refl
cond_same false x y z h = refl

same_surfaces : (s t : SurfaceView) → IsSurface s → IsSurface t → s.rows ≡ t.rows → s.columns ≡ t.columns → ((r c : ℕ) → r < s.rows → c < s.columns → cell_of s r c ≡ cell_of t r c) → s ≡ t
same_surfaces s t a b rows columns h =
    let lines : s.lines ≡ t.lines = a.whole ∙ grid_same s.rows s.columns (cell_of s) (cell_of t) h ∙ (λ i. grid_of (rows i) (columns i) (cell_of t)) ∙ sym b.whole in
    λ i. record { rows = rows i; columns = columns i; lines = lines i }

filled_is_surface : GridLaws CellView → (s : SurfaceView) (area : Area) (f : ℕ → ℕ → CellView) → IsSurface s → IsSurface (filled s area f)
unfolding filled
filled_is_surface laws s area f h = record { size = h.size; whole = whole_of laws s.rows s.columns _ _ refl }

filled_has : GridLaws CellView → (s : SurfaceView) (area : Area) (f : ℕ → ℕ → CellView) (r c : ℕ) → r < s.rows → c < s.columns
    → cell_of (filled s area f) r c ≡ cond (is_inside area r c) (f (r - area.top) (c - area.left)) (cell_of s r c)
unfolding filled
filled_has laws s area f r c h k = lines_at laws (record { rows = s.rows; columns = s.columns; lines = s.lines }) _ (λ r c. cond (is_inside area r c) (f (r - area.top) (c - area.left)) (cell_of s r c)) refl r c h k

filled_alike : (s : SurfaceView) (area : Area) (f g : ℕ → ℕ → CellView) → ((r c : ℕ) → r < area.rows → c < area.columns → f r c ≡ g r c) → filled s area f ≡ filled s area g
unfolding filled
filled_alike s area f g h =
    let lines = grid_same s.rows s.columns _ _ (λ r c b k. cond_same (is_inside area r c) (f (r - area.top) (c - area.left)) (g (r - area.top) (c - area.left)) (cell_of s r c) (λ t.
    let i = is_inside_tells area r c t in h (r - area.top) (c - area.left) (omega (arith, i.0, i.1)) (omega (arith, i.2, i.3)))) in
    (λ j. record s { lines = lines j })

sized : (s : SurfaceView) (area : Area) (f : ℕ → ℕ → CellView) → ((filled s area f).rows ≡ s.rows) × ((filled s area f).columns ≡ s.columns)
unfolding filled
sized s area f = (refl, refl)

resized_is_surface : GridLaws CellView → (s : SurfaceView) (area : Area) (rows columns : ℕ) (cell : CellView) → IsSurfaceSize rows columns → IsSurface (resized_surface s area rows columns cell)
unfolding resized_surface
resized_is_surface laws s area rows columns cell size = record { size = size; whole = whole_of laws rows columns _ _ refl }

resized_has : GridLaws CellView → (s : SurfaceView) (area : Area) (rows columns : ℕ) (cell : CellView) (r c : ℕ) → r < rows → c < columns
    → cell_of (resized_surface s area rows columns cell) r c ≡ cond (ltb r area.rows && ltb c area.columns) (inside_at s area r c) cell
unfolding resized_surface
resized_has laws s area rows columns cell r c h k = lines_at laws (record { rows = rows; columns = columns; lines = s.lines }) _ (λ r c. cond (ltb r area.rows && ltb c area.columns) (inside_at s area r c) cell) refl r c h k

pub the_laws : GridLaws CellView → SurfaceLaws
the_laws laws = record {
  same = same_surfaces;
  filled_rows = λ s area f. (sized s area f).0;
  filled_columns = λ s area f. (sized s area f).1;
  filled_surface = filled_is_surface laws;
  filled_at = filled_has laws;
  filled_same = filled_alike;
  blank = λ rows columns size. record { size = size; whole = whole_of laws rows columns _ (λ _ _. blank_cell) refl };
  blank_at = λ rows columns r c h k. lines_at laws (record { rows = rows; columns = columns; lines = grid_of rows columns (λ _ _. blank_cell) }) _ (λ _ _. blank_cell) refl r c h k;
  resized = resized_is_surface laws;
  resized_at = resized_has laws;
}
