-- Blocks of cells that are laid over a part of an area.
use Rattle.std.proofs.lemmas.List.{map-append}
use Rattle.std.proofs.Common.{[], ◌∷◌, ◌++◌, zero, suc, refl, map, ◌≡◌, ℕ, ◌+◌, ◌-◌, ◌<◌, ◌≤◌, ◌∙◌, ap, arith, sym, List, get_or, Bool, cond, ltb, leb, ◌==◌, ◌&&◌}
use Rattle.std.proofs.lemmas.Bool.Decides.{nat_tests}
use Rattle.std.specs.List.{range_with_len}
use Rattle.scr_cells.specs.CellViews.{CellView, blank_cell}
use Rattle.scr_cells.specs.Grids.{grid_of}
use Rattle.scr_windows.specs.declared.surfaces.areas.Area.{Area}
use Rattle.scr_windows.specs.Surfaces.SurfaceViews.{SurfaceView, IsSurface, IsPart, cell_of, inside_at, is_inside}
use Rattle.scr_windows.specs.Surfaces.Formulas.{laid, part_laid}
use Rattle.scr_windows.specs.Code.Steps.{RunIs, Changes}
use Rattle.scr_windows.proofs.ChangeLaws.{run_at}
use Rattle.scr_windows.proofs.RunLaws.{then_run, unchanged}

ap2 : {X Y Z : Type 0} (f : X → Y → Z) {a b : X} {c d : Y} → a ≡ b → c ≡ d → f a c ≡ f b d
ap2 f p q = λ i. f (p i) (q i)

-- no row is laid yet
pub lay_begun : (old : SurfaceView) (area part : Area) (overlay : Bool) (cells : ℕ → ℕ → CellView) → IsSurface old → Changes old old area (part_laid overlay (record part { rows = 0 }) cells)
lay_begun old area part overlay cells surface = unchanged old area _ surface (λ r c b k. none (inside_at old area) part (laid overlay (cells (r - part.top) (c - part.left)) (inside_at old area r c)) r c)
  where
    none : (at : ℕ → ℕ → CellView) (part : Area) (value : CellView) (r c : ℕ) → at r c ≡ cond (is_inside (record part { rows = 0 }) r c) value (at r c)
    none at part value r c = grind (arith, nat_tests)

-- one row more
pub lay_more : (old mid new : SurfaceView) (area part : Area) (overlay : Bool) (cells : ℕ → ℕ → CellView) (row : ℕ) (line : List CellView)
    → IsPart old area → part.top + part.rows ≤ area.rows → part.left + part.columns ≤ area.columns → row < part.rows
    → Changes old mid area (part_laid overlay (record part { rows = row }) cells)
    → RunIs mid new (area.top + (part.top + row)) (area.left + part.left) (area.left + part.left + part.columns) (λ c. laid overlay (get_or line (c - (area.left + part.left)) blank_cell) (cell_of mid (area.top + (part.top + row)) c))
    → ((c : ℕ) → c < part.columns → get_or line c blank_cell ≡ cells row c)
    → Changes old new area (part_laid overlay (record part { rows = row + 1 }) cells)
lay_more old mid new area part overlay cells row line on below right row_in h run same =
    let end : area.left + part.left + part.columns ≡ area.left + (part.left + part.columns) = omega arith in
    then_run old mid new area _ _ (part.top + row) part.left (part.left + part.columns) _ on h (run_at _ _ refl end run) (omega arith) (omega arith) (λ r c b k.
    one (inside_at old area) part (laid overlay) cells row r c _ (λ e from to.
    let place : area.left + c - (area.left + part.left) ≡ c - part.left = omega arith in
    let was : cell_of mid (area.top + (part.top + row)) (area.left + c) ≡ inside_at old area (part.top + row) c = h.inside (part.top + row) c (omega arith) k ∙ kept (inside_at old area) part row c _ in
    ap2 (laid overlay) (ap (λ x. get_or line x blank_cell) place ∙ same (c - part.left) (omega arith)) (was ∙ ap (λ x. inside_at old area x c) (sym e))))
  where
    kept : (at : ℕ → ℕ → CellView) (part : Area) (row c : ℕ) (value : CellView) → cond (is_inside (record part { rows = row }) (part.top + row) c) value (at (part.top + row) c) ≡ at (part.top + row) c
    kept at part row c value = grind (arith, nat_tests)

    one : (at : ℕ → ℕ → CellView) (part : Area) (f : CellView → CellView → CellView) (cells : ℕ → ℕ → CellView) (row r c : ℕ) (value : CellView)
        → (r ≡ part.top + row → part.left ≤ c → c < part.left + part.columns → value ≡ f (cells row (c - part.left)) (at r c))
        → cond (r == part.top + row && leb part.left c && ltb c (part.left + part.columns)) value (cond (is_inside (record part { rows = row }) r c) (f (cells (r - part.top) (c - part.left)) (at r c)) (at r c))
        ≡ cond (is_inside (record part { rows = row + 1 }) r c) (f (cells (r - part.top) (c - part.left)) (at r c)) (at r c)
    one at part f cells row r c value e = grind (arith, nat_tests)

-- a row more that is read
range_more : (a n : ℕ) → range_with_len a (n + 1) ≡ range_with_len a n ++ (a + n) ∷ []
range_more a zero = let e : a + 0 ≡ a = omega arith in ap (λ k. k ∷ []) (sym e)
range_more a (suc n) =
    let e : a + 1 + n ≡ a + suc n = omega arith in
    let f : suc n + 1 ≡ suc (n + 1) = omega arith in
    ap (range_with_len a) f ∙ ap (λ ks. a ∷ ks) (range_more (a + 1) n ∙ ap (λ k. range_with_len (a + 1) n ++ k ∷ []) e)

pub read_more : (columns row : ℕ) (f : ℕ → ℕ → CellView) (lines : List (List CellView)) (line : List CellView) → lines ≡ grid_of row columns f → line ≡ map (f row) (range_with_len 0 columns)
    → lines ++ line ∷ [] ≡ grid_of (row + 1) columns f
read_more columns row f lines line is line_is =
    let g : ℕ → List CellView = λ r. map (f r) (range_with_len 0 columns) in
    let zeroth : 0 + row ≡ row = omega arith in
    let all : map g (range_with_len 0 (row + 1)) ≡ map g (range_with_len 0 row) ++ g (0 + row) ∷ [] = ap (map g) (range_more 0 row) ∙ map-append g (range_with_len 0 row) ((0 + row) ∷ []) in
    (λ j. is j ++ (line_is ∙ ap g (sym zeroth)) j ∷ []) ∙ sym all
