-- One row of a surface changed, and changes that are made of such rows.
use Rattle.std.specs.Prelude.{slice_set}
use Rattle.std.proofs.Common.{[], ◌∷◌, ◌++◌, zero, suc, drop, map, take, ◌≡◌, ◌≢◌, ◌⊎◌, inl, inr, ℕ, ◌+◌, ◌-◌, ◌<◌, ◌≤◌, sym, subst, ◌∙◌, ap, refl, arith, List, length, get_or, cond, ltb, leb, ◌==◌, ◌&&◌, false}
use Rattle.std.specs.List.{enumerate_from, range_with_len}
use Rattle.std.proofs.lemmas.List.{get_or-drop, get_or-map, get_or-take, length-drop, length-map, length-take-le, same_lists}
use Rattle.std.proofs.lemmas.List.FromFn.{get_or-enumerate_from, get_or-map-range_with_len, length-enumerate_from, length-map-range_with_len}
use Rattle.std.proofs.lemmas.Bool.Decides.{nat_tests}
use Rattle.scr_cells.specs.CellViews.{CellView, blank_cell}
use Rattle.scr_cells.specs.Grids.{GridLaws, GridView, IsGrid, changed_run, grid_at, grid_of, grid_row, grid_with, grid_with_run, is_in_run, line_with_run}
use Rattle.scr_windows.specs.declared.surfaces.areas.Area.{Area}
use Rattle.scr_windows.specs.Surfaces.SurfaceViews.{SurfaceView, IsSurface, IsSurfaceSize, IsPart, cell_of, is_inside, inside_at}
use Rattle.scr_windows.specs.Code.Steps.{RunIs, Changes}

-- a grid of cells, as a surface
abbrev pub surface_of : GridView CellView → SurfaceView
surface_of g = record { rows = g.rows; columns = g.columns; lines = g.lines }

old_at : (g : GridView CellView) (r c : ℕ) → cell_of (surface_of g) r c ≡ grid_at blank_cell g.lines r c
unfolding cell_of
old_at g r c = refl

pub whole_of : GridLaws CellView → (rows columns : ℕ) (lines : List (List CellView)) (f : ℕ → ℕ → CellView) → lines ≡ grid_of rows columns f
    → lines ≡ grid_of rows columns (cell_of (record { rows = rows; columns = columns; lines = lines }))
unfolding cell_of
whole_of laws rows columns lines f e =
    let P : List (List CellView) → Type 0 = λ ls. ls ≡ grid_of rows columns (grid_at blank_cell ls) in
    subst P (sym e) (laws.places blank_cell rows columns (grid_of rows columns f) (laws.sized rows columns f))

pub lines_at : GridLaws CellView → (g : GridView CellView) (lines : List (List CellView)) (f : ℕ → ℕ → CellView) → lines ≡ grid_of g.rows g.columns f → (r c : ℕ) → r < g.rows → c < g.columns
    → cell_of (record { rows = g.rows; columns = g.columns; lines = lines }) r c ≡ f r c
unfolding cell_of
lines_at laws g lines f e r c h k = ap (λ ls. grid_at blank_cell ls r c) e ∙ laws.formula blank_cell g.rows g.columns f r c h k

-- a surface whose grid has a run put in a row
pub run_of : GridLaws CellView → (g new : GridView CellView) (s : SurfaceView) (row from end : ℕ) (run : List CellView) (value : ℕ → CellView)
    → surface_of g ≡ s → IsSurface (surface_of g) → new ≡ record g { lines = grid_with_run g.lines row from run }
    → row < s.rows → from + length run ≡ end → end ≤ s.columns
    → ((k : ℕ) → k < length run → get_or run k blank_cell ≡ value (from + k))
    → RunIs s (surface_of new) row from end value
run_of laws g new s row from end run value is surface new_is row_in end_is end_in values =
    let P : SurfaceView → Type 0 = λ v. RunIs v (surface_of new) row from end value in
    let Q : GridView CellView → Type 0 = λ n. RunIs (surface_of g) (surface_of n) row from end value in
    let row_in2 : row < g.rows = omega (arith, ap (λ (v : SurfaceView). v.rows) is) in
    let end_in2 : end ≤ g.columns = omega (arith, ap (λ (v : SurfaceView). v.columns) is) in
    subst P is (subst Q (sym new_is) (put_of laws g row from end run value surface row_in2 end_is end_in2 values))
  where
    in_run : {X : Type 0} (row from n c : ℕ) (x y : X) → from ≤ c → c < from + n → cond (is_in_run row from (from + n) row c) x y ≡ x
    in_run row from n c x y h k = grind (arith, nat_tests)

    not_in_run : {X : Type 0} (row from n r c : ℕ) (x y : X) → (r ≢ row) ⊎ ((c < from) ⊎ (from + n ≤ c)) → cond (is_in_run row from (from + n) r c) x y ≡ y
    not_in_run row from n r c x y (inl h) = grind (arith, nat_tests)
    not_in_run row from n r c x y (inr (inl h)) = grind (arith, nat_tests)
    not_in_run row from n r c x y (inr (inr h)) = grind (arith, nat_tests)

    put_of : GridLaws CellView → (g : GridView CellView) (row from end : ℕ) (run : List CellView) (value : ℕ → CellView) → IsSurface (surface_of g)
        → row < g.rows → from + length run ≡ end → end ≤ g.columns → ((k : ℕ) → k < length run → get_or run k blank_cell ≡ value (from + k))
        → RunIs (surface_of g) (surface_of (record g { lines = grid_with_run g.lines row from run })) row from end value
    put_of laws g row from end run value surface row_in end_is end_in values =
        let new : List (List CellView) = grid_with_run g.lines row from run in
        let was : ℕ → ℕ → CellView = cell_of (surface_of g) in
        let P : List (List CellView) → Type 0 = λ lines. IsGrid g.rows g.columns lines in
        let grid : IsGrid g.rows g.columns g.lines = subst P (sym surface.whole) (laws.sized g.rows g.columns was) in
        let f : ℕ → ℕ → CellView = λ r c. cond (is_in_run row from (from + length run) r c) (get_or run (c - from) blank_cell) (grid_at blank_cell g.lines r c) in
        let formula : new ≡ grid_of g.rows g.columns f = laws.run blank_cell g.rows g.columns g.lines row from run grid row_in (omega arith) in
        let now : (r c : ℕ) → r < g.rows → c < g.columns → cell_of (surface_of (record g { lines = new })) r c ≡ f r c = lines_at laws g new f formula in
        let old : (r c : ℕ) → was r c ≡ grid_at blank_cell g.lines r c = old_at g in
        record {
          same_rows = refl;
          same_columns = refl;
          surface = record { size = surface.size; whole = whole_of laws g.rows g.columns new f formula };
          inside = λ c h k. now row c row_in (omega arith) ∙ in_run row from (length run) c _ _ h (omega arith) ∙ values (c - from) (omega arith) ∙ (let e : from + (c - from) ≡ c = omega arith in ap value e);
          before = λ c h. now row c row_in (omega arith) ∙ not_in_run row from (length run) row c _ _ (inr (inl h)) ∙ sym (old row c);
          after = λ c h k. now row c row_in k ∙ not_in_run row from (length run) row c _ _ (inr (inr (omega arith))) ∙ sym (old row c);
          rows = λ r c h b k. now r c b k ∙ not_in_run row from (length run) r c _ _ (inl h) ∙ sym (old r c);
        }

pub surface_is : (g : GridView CellView) (s : SurfaceView) → surface_of g ≡ s → IsSurface (surface_of g) → IsSurface s
surface_is g s is surface =
    let P : SurfaceView → Type 0 = λ v. IsSurface v in
    subst P is surface

pub blank_is : GridLaws CellView → (g : GridView CellView) (rows columns : ℕ) (cell : CellView) → IsSurfaceSize rows columns → g ≡ record { rows = rows; columns = columns; lines = grid_of rows columns (λ _ _. cell) } → IsSurface (surface_of g)
blank_is laws g rows columns cell size is =
    let P : GridView CellView → Type 0 = λ v. IsSurface (surface_of v) in
    subst P (sym is) (record { size = size; whole = whole_of laws rows columns _ (λ _ _. cell) refl })

-- the cells of one row
pub row_of_surface : (s : SurfaceView) (r : ℕ) → IsSurface s → r < s.rows → grid_row s.lines r ≡ map (cell_of s r) (range_with_len 0 s.columns)
row_of_surface s r surface h = ap (λ ls. get_or ls r []) surface.whole ∙ get_or-map-range_with_len (λ i. map (cell_of s i) (range_with_len 0 s.columns)) 0 s.rows r r [] h (omega arith)

pub row_width : (s : SurfaceView) (r : ℕ) → IsSurface s → r < s.rows → length (grid_row s.lines r) ≡ s.columns
row_width s r surface h = ap length (row_of_surface s r surface h) ∙ length-map-range_with_len (cell_of s r) 0 s.columns

-- a part of a row is so long, and has these cells
pub part_width : (s : SurfaceView) (r from n : ℕ) → IsSurface s → r < s.rows → from + n ≤ s.columns → length (take n (drop from (grid_row s.lines r))) ≡ n
part_width s r from n surface h fits =
    let wide : length (grid_row s.lines r) ≡ s.columns = row_width s r surface h in
    let rest : length (drop from (grid_row s.lines r)) ≡ length (grid_row s.lines r) - from = length-drop from (grid_row s.lines r) in
    length-take-le n (drop from (grid_row s.lines r)) (omega (arith, wide, rest))

pub part_at : (s : SurfaceView) (r from n k : ℕ) (d : CellView) → IsSurface s → r < s.rows → from + n ≤ s.columns → k < n → get_or (take n (drop from (grid_row s.lines r))) k d ≡ cell_of s r (from + k)
part_at s r from n k d surface h fits k_in =
    get_or-take n (drop from (grid_row s.lines r)) k d k_in ∙ get_or-drop from (grid_row s.lines r) k d ∙ ap (λ line. get_or line (from + k) d) (row_of_surface s r surface h)
    ∙ get_or-map-range_with_len (cell_of s r) 0 s.columns (from + k) (from + k) d (omega arith) (omega arith)

pub line_is : (s : SurfaceView) (area : Area) (row n : ℕ) → IsSurface s → IsPart s area → row < area.rows → n ≡ area.columns
    → take n (drop area.left (grid_row s.lines (area.top + row))) ≡ map (inside_at s area row) (range_with_len 0 area.columns)
line_is s area row n surface part row_in n_is =
    let below : area.top + row < s.rows = omega (arith, part.below) in
    let right : area.left + n ≤ s.columns = omega (arith, part.right) in
    let wide : length (take n (drop area.left (grid_row s.lines (area.top + row)))) ≡ n = part_width s (area.top + row) area.left n surface below right in
    let wide2 : length (map (inside_at s area row) (range_with_len 0 area.columns)) ≡ area.columns = length-map-range_with_len _ 0 area.columns in
    same_lists _ _ (wide ∙ n_is ∙ sym wide2) (λ k d h.
    let k_in : k < n = omega (arith, wide) in
    part_at s (area.top + row) area.left n k d surface below right k_in ∙ sym (get_or-map-range_with_len (inside_at s area row) 0 area.columns k k d (omega (arith, n_is)) (omega arith)))

-- what a function makes of a part of a row
pub changed_width : (s : SurfaceView) (f : ℕ → CellView → CellView) (r from n : ℕ) → IsSurface s → r < s.rows → from + n ≤ s.columns → length (changed_run f from (take n (drop from (grid_row s.lines r)))) ≡ n
changed_width s f r from n surface h fits =
    length-map (enumerate_from from (take n (drop from (grid_row s.lines r)))) (λ p. f p.0 p.1) ∙ length-enumerate_from from (take n (drop from (grid_row s.lines r))) ∙ part_width s r from n surface h fits

pub changed_at : (s : SurfaceView) (f : ℕ → CellView → CellView) (r from n k : ℕ) → IsSurface s → r < s.rows → from + n ≤ s.columns → k < n
    → get_or (changed_run f from (take n (drop from (grid_row s.lines r)))) k blank_cell ≡ f (from + k) (cell_of s r (from + k))
changed_at s f r from n k surface h fits k_in =
    let part : List CellView = take n (drop from (grid_row s.lines r)) in
    let wide : length part ≡ n = part_width s r from n surface h fits in
    let wide2 : length (enumerate_from from part) ≡ length part = length-enumerate_from from part in
    get_or-map (λ (p : ℕ × CellView). f p.0 p.1) (enumerate_from from part) k (0, blank_cell) blank_cell (omega (arith, wide, wide2))
    ∙ ap (λ (p : ℕ × CellView). f p.0 p.1) (get_or-enumerate_from from part k (0, blank_cell) (omega (arith, wide)))
    ∙ ap (f (from + k)) (part_at s r from n k blank_cell surface h fits k_in)

-- a surface whose grid has what a function makes of a part of a row
pub change_of : GridLaws CellView → (g new : GridView CellView) (s : SurfaceView) (row from end : ℕ) (f : ℕ → CellView → CellView)
    → surface_of g ≡ s → IsSurface (surface_of g) → new ≡ record g { lines = grid_with_run g.lines row from (changed_run f from (take (end - from) (drop from (grid_row g.lines row)))) }
    → row < s.rows → from ≤ end → end ≤ s.columns → RunIs s (surface_of new) row from end (λ c. f c (cell_of s row c))
change_of laws g new s row from end f is surface new_is row_in order end_in =
    let row_in2 : row < g.rows = omega (arith, ap (λ (v : SurfaceView). v.rows) is) in
    let fits : from + (end - from) ≤ g.columns = omega (arith, ap (λ (v : SurfaceView). v.columns) is) in
    let wide : length (changed_run f from (take (end - from) (drop from (grid_row g.lines row)))) ≡ end - from = changed_width (surface_of g) f row from (end - from) surface row_in2 fits in
    run_of laws g new s row from end _ _ is surface new_is row_in (omega (arith, wide)) end_in (λ k h.
    changed_at (surface_of g) f row from (end - from) k surface row_in2 fits (omega (arith, wide)) ∙ ap (λ v. f (from + k) (cell_of v row (from + k))) is)

-- a surface whose grid has a part of a row copied
pub move_of : GridLaws CellView → (g new : GridView CellView) (s : SurfaceView) (source start end row to : ℕ)
    → surface_of g ≡ s → IsSurface (surface_of g) → new ≡ record g { lines = grid_with_run g.lines row to (take (end - start) (drop start (grid_row g.lines source))) }
    → source < s.rows → row < s.rows → start ≤ end → end ≤ s.columns → to + (end - start) ≤ s.columns → RunIs s (surface_of new) row to (to + (end - start)) (λ c. cell_of s source (start + (c - to)))
move_of laws g new s source start end row to is surface new_is source_in row_in order end_in to_in =
    let source_in2 : source < g.rows = omega (arith, ap (λ (v : SurfaceView). v.rows) is) in
    let fits : start + (end - start) ≤ g.columns = omega (arith, ap (λ (v : SurfaceView). v.columns) is) in
    let wide : length (take (end - start) (drop start (grid_row g.lines source))) ≡ end - start = part_width (surface_of g) source start (end - start) surface source_in2 fits in
    run_of laws g new s row to (to + (end - start)) _ _ is surface new_is row_in (omega (arith, wide)) to_in (λ k h.
    let e : start + k ≡ start + (to + k - to) = omega arith in
    part_at (surface_of g) source start (end - start) k blank_cell surface source_in2 fits (omega (arith, wide)) ∙ ap (λ v. cell_of v source (start + k)) is ∙ ap (cell_of s source) e)

-- a run of an area, after a change of it
pub then_run : (old mid new : SurfaceView) (area : Area) (f g : (ℕ → ℕ → CellView) → ℕ → ℕ → CellView) (row from end : ℕ) (value : ℕ → CellView)
    → IsPart old area → Changes old mid area f → RunIs mid new (area.top + row) (area.left + from) (area.left + end) value
    → row < area.rows → end ≤ area.columns
    → ((r c : ℕ) → r < area.rows → c < area.columns → cond (r == row && leb from c && ltb c end) (value (area.left + c)) (f (inside_at old area) r c) ≡ g (inside_at old area) r c)
    → Changes old new area g
then_run old mid new area f g row from end value part h run row_in end_in is = record {
  same_rows = run.same_rows ∙ h.same_rows;
  same_columns = run.same_columns ∙ h.same_columns;
  surface = run.surface;
  inside = λ r c b k. inside_run mid new area row from end value run (omega (arith, part.below, h.same_rows)) (omega (arith, part.right, h.same_columns)) (f (inside_at old area)) h.inside r c b k ∙ is r c b k;
  outside = λ r c b k t. outside_run mid new area row from end value run row_in end_in (omega (arith, part.right, h.same_columns)) r c (omega (arith, h.same_rows)) (omega (arith, h.same_columns)) t ∙ h.outside r c b k t;
}
  where
    inside_run : (mid new : SurfaceView) (area : Area) (row from end : ℕ) (value : ℕ → CellView) → RunIs mid new (area.top + row) (area.left + from) (area.left + end) value
        → area.top + area.rows ≤ mid.rows → area.left + area.columns ≤ mid.columns
        → (was : ℕ → ℕ → CellView) → ((r c : ℕ) → r < area.rows → c < area.columns → cell_of mid (area.top + r) (area.left + c) ≡ was r c)
        → (r c : ℕ) → r < area.rows → c < area.columns → cell_of new (area.top + r) (area.left + c) ≡ cond (r == row && leb from c && ltb c end) (value (area.left + c)) (was r c)
    inside_run mid new area row from end value run below right was h r c b k =
        grind (arith, nat_tests, run.inside (area.left + c), run.before (area.left + c), run.after (area.left + c), run.rows (area.top + r) (area.left + c), h r c b k)

    outside_run : (mid new : SurfaceView) (area : Area) (row from end : ℕ) (value : ℕ → CellView) → RunIs mid new (area.top + row) (area.left + from) (area.left + end) value
        → row < area.rows → end ≤ area.columns → area.left + area.columns ≤ mid.columns
        → (r c : ℕ) → r < mid.rows → c < mid.columns → is_inside area r c ≡ false → cell_of new r c ≡ cell_of mid r c
    outside_run mid new area row from end value run h k right r c b l t =
        grind (arith, nat_tests, run.inside c, run.before c, run.after c, run.rows r c)

-- nothing is changed yet
pub unchanged : (old : SurfaceView) (area : Area) (f : (ℕ → ℕ → CellView) → ℕ → ℕ → CellView) → IsSurface old
    → ((r c : ℕ) → r < area.rows → c < area.columns → inside_at old area r c ≡ f (inside_at old area) r c) → Changes old old area f
unchanged old area f surface h = record { same_rows = refl; same_columns = refl; surface = surface; inside = h; outside = λ r c b k t. refl }

-- one place of a row changed is a run of one element put there
set_is_run : {A : Type 0} (xs : List A) (k : ℕ) (x : A) → k < length xs → slice_set xs k x ≡ line_with_run xs k (x ∷ [])
set_is_run [] k x h = absurd (omega (arith, h))
set_is_run (y ∷ ys) zero x h = refl
set_is_run {A} (y ∷ ys) (suc k) x h =
    let one : List A = x ∷ [] in
    let e : suc (k + length one) ≡ suc k + length one = omega arith in
    let rest : y ∷ slice_set ys k x ≡ y ∷ (take k ys ++ one ++ drop (k + length one) ys) = ap (λ zs. y ∷ zs) (set_is_run ys k x (omega (arith, h))) in
    let last : y ∷ (take k ys ++ one ++ drop (suc (k + length one)) (y ∷ ys)) ≡ y ∷ (take k ys ++ one ++ drop (suc k + length one) (y ∷ ys)) = ap (λ n. y ∷ (take k ys ++ one ++ drop n (y ∷ ys))) e in
    rest ∙ last

pub put_is_run : GridLaws CellView → (g : GridView CellView) (row column : ℕ) (cell : CellView) → IsSurface (surface_of g) → row < g.rows → column < g.columns → grid_with g.lines row column cell ≡ grid_with_run g.lines row column (cell ∷ [])
put_is_run laws g row column cell surface h k =
    let P : List (List CellView) → Type 0 = λ lines. IsGrid g.rows g.columns lines in
    let grid : IsGrid g.rows g.columns g.lines = subst P (sym surface.whole) (laws.sized g.rows g.columns (cell_of (surface_of g))) in
    ap (slice_set g.lines row) (set_is_run (grid_row g.lines row) column cell (omega (arith, grid.wide row h, k)))
