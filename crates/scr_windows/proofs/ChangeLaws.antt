-- Changes of an area, row after row.
use Rattle.std.proofs.Common.{ap, ◌≡◌, ℕ, ◌+◌, ◌-◌, ◌<◌, ◌≤◌, sym, ◌∙◌, refl, arith, subst, cond, ltb, leb, ◌==◌, ◌&&◌, ◌||◌, if◌then◌else◌}
use Rattle.std.proofs.lemmas.Bool.Decides.{nat_tests}
use Rattle.scr_cells.specs.CellViews.{CellView, exchanged}
use Rattle.scr_windows.specs.declared.surfaces.areas.Area.{Area}
use Rattle.scr_windows.specs.Surfaces.SurfaceViews.{SurfaceView, IsSurface, IsPart, cell_of, inside_at}
use Rattle.scr_windows.specs.Surfaces.Formulas.{run_put, rows_put, below_put, column_put, all_exchanged, row_opened, row_closed}
use Rattle.scr_windows.specs.Code.Steps.{RunIs, Changes}
use Rattle.scr_windows.proofs.RunLaws.{then_run, unchanged}

-- the rows from the first up to one are moved up, and the others not yet
abbrev pub rows_partly_up : ℕ → ℕ → ℕ → ℕ → CellView → (ℕ → ℕ → CellView) → ℕ → ℕ → CellView
rows_partly_up first row end n cell at r c = if leb first r && ltb r row then (if ltb (r + n) end then at (r + n) c else cell) else at r c

-- the rows from one up to the end are moved down, and the others not yet
abbrev pub rows_partly_down : ℕ → ℕ → ℕ → ℕ → CellView → (ℕ → ℕ → CellView) → ℕ → ℕ → CellView
rows_partly_down first row end n cell at r c = if leb row r && ltb r end then (if leb (first + n) r then at (r - n) c else cell) else at r c

pub run_filled : (old new : SurfaceView) (area : Area) (row from end : ℕ) (cell : CellView) → IsSurface old → IsPart old area → row < area.rows → end ≤ area.columns
    → RunIs old new (area.top + row) (area.left + from) (area.left + end) (λ _. cell) → Changes old new area (run_put row from end cell)
run_filled old new area row from end cell surface part row_in end_in run =
    then_run old old new area (λ at. at) (run_put row from end cell) row from end (λ _. cell) part (unchanged old area (λ at. at) surface (λ r c h k. refl)) run row_in end_in (λ r c h k. refl)

ap2 : {X Y Z : Type 0} (f : X → Y → Z) {a b : X} {c d : Y} → a ≡ b → c ≡ d → f a c ≡ f b d
ap2 f p q = λ i. f (p i) (q i)

pub run_at : {old new : SurfaceView} {row from end : ℕ} {value : ℕ → CellView} (from2 end2 : ℕ) → from ≡ from2 → end ≡ end2 → RunIs old new row from end value → RunIs old new row from2 end2 value
run_at {old} {new} {row} {from} {end} {value} from2 end2 e f run =
    let P : ℕ → Type 0 = λ x. RunIs old new row x end value in
    let Q : ℕ → Type 0 = λ x. RunIs old new row from2 x value in
    subst Q f (subst P e run)

whole_row : (old mid new : SurfaceView) (area : Area) (f g : (ℕ → ℕ → CellView) → ℕ → ℕ → CellView) (row : ℕ) (value : ℕ → CellView)
    → IsPart old area → Changes old mid area f → RunIs mid new (area.top + row) area.left (area.left + area.columns) value → row < area.rows
    → ((r c : ℕ) → r < area.rows → c < area.columns → cond (r == row) (value (area.left + c)) (f (inside_at old area) r c) ≡ g (inside_at old area) r c)
    → Changes old new area g
whole_row old mid new area f g row value part h run row_in is =
    let z : area.left + 0 ≡ area.left = omega arith in
    let run2 : RunIs mid new (area.top + row) (area.left + 0) (area.left + area.columns) value = run_at _ _ (sym z) refl run in
    then_run old mid new area f g row 0 area.columns value part h run2 row_in (omega arith)
    (λ r c b k. (let e : cond (r == row && leb 0 c && ltb c area.columns) (value (area.left + c)) (f (inside_at old area) r c) ≡ cond (r == row) (value (area.left + c)) (f (inside_at old area) r c) = grind (arith, nat_tests) in e) ∙ is r c b k)

pub one_row_more : (old mid new : SurfaceView) (area : Area) (first row : ℕ) (cell : CellView) → IsPart old area → first ≤ row → row < area.rows → Changes old mid area (rows_put first row cell)
    → RunIs mid new (area.top + row) area.left (area.left + area.columns) (λ _. cell) → Changes old new area (rows_put first (row + 1) cell)
one_row_more old mid new area first row cell part le row_in h run =
    whole_row old mid new area (rows_put first row cell) (rows_put first (row + 1) cell) row (λ _. cell) part h run row_in (λ r c b k. grind (arith, nat_tests))

pub one_row_up : (old mid new : SurfaceView) (area : Area) (first row end n : ℕ) (cell : CellView) → IsPart old area → first ≤ row → row < end → end ≤ area.rows → n < end - row
    → Changes old mid area (rows_partly_up first row end n cell)
    → RunIs mid new (area.top + row) area.left (area.left + (area.left + area.columns - area.left)) (λ c. cell_of mid (area.top + row + n) (area.left + (c - area.left)))
    → Changes old new area (rows_partly_up first (row + 1) end n cell)
one_row_up old mid new area first row end n cell part le row_in end_in few h run =
    let w : area.left + (area.left + area.columns - area.left) ≡ area.left + area.columns = omega arith in
    whole_row old mid new area _ _ row _ part h (run_at _ _ refl w run) (omega arith) (λ r c b k.
    let e : cell_of mid (area.top + row + n) (area.left + (area.left + c - area.left)) ≡ cell_of mid (area.top + (row + n)) (area.left + c) = ap2 (cell_of mid) (omega arith) (omega arith) in
    let f = h.inside (row + n) c (omega arith) k in
    up_case (inside_at old area) first row end n cell r c _ le few (e ∙ f))
  where
    up_case : (at : ℕ → ℕ → CellView) (first row end n : ℕ) (cell : CellView) (r c : ℕ) (value : CellView) → first ≤ row → n < end - row
        → value ≡ rows_partly_up first row end n cell at (row + n) c
        → cond (r == row) value (rows_partly_up first row end n cell at r c) ≡ rows_partly_up first (row + 1) end n cell at r c
    up_case at first row end n cell r c value le few e = grind (arith, nat_tests)

pub one_row_free_up : (old mid new : SurfaceView) (area : Area) (first row end n : ℕ) (cell : CellView) → IsPart old area → first ≤ row → row < end → end ≤ area.rows → end - row ≤ n
    → Changes old mid area (rows_partly_up first row end n cell)
    → RunIs mid new (area.top + row) area.left (area.left + area.columns) (λ _. cell)
    → Changes old new area (rows_partly_up first (row + 1) end n cell)
one_row_free_up old mid new area first row end n cell part le row_in end_in many h run =
    whole_row old mid new area _ _ row _ part h run (omega arith) (λ r c b k. free_case (inside_at old area) first row end n cell r c le row_in many)
  where
    free_case : (at : ℕ → ℕ → CellView) (first row end n : ℕ) (cell : CellView) (r c : ℕ) → first ≤ row → row < end → end - row ≤ n
        → cond (r == row) cell (rows_partly_up first row end n cell at r c) ≡ rows_partly_up first (row + 1) end n cell at r c
    free_case at first row end n cell r c le row_in many = grind (arith, nat_tests)

pub one_row_down : (old mid new : SurfaceView) (area : Area) (first row end n : ℕ) (cell : CellView) → IsPart old area → first ≤ row → row < end → end ≤ area.rows → n ≤ row - first
    → Changes old mid area (rows_partly_down first (row + 1) end n cell)
    → RunIs mid new (area.top + row) area.left (area.left + (area.left + area.columns - area.left)) (λ c. cell_of mid (area.top + row - n) (area.left + (c - area.left)))
    → Changes old new area (rows_partly_down first row end n cell)
one_row_down old mid new area first row end n cell part le row_in end_in few h run =
    let w : area.left + (area.left + area.columns - area.left) ≡ area.left + area.columns = omega arith in
    whole_row old mid new area _ _ row _ part h (run_at _ _ refl w run) (omega arith) (λ r c b k.
    let e : cell_of mid (area.top + row - n) (area.left + (area.left + c - area.left)) ≡ cell_of mid (area.top + (row - n)) (area.left + c) = ap2 (cell_of mid) (omega arith) (omega arith) in
    let f = h.inside (row - n) c (omega arith) k in
    down_case (inside_at old area) first row end n cell r c _ le row_in few (e ∙ f))
  where
    down_case : (at : ℕ → ℕ → CellView) (first row end n : ℕ) (cell : CellView) (r c : ℕ) (value : CellView) → first ≤ row → row < end → n ≤ row - first
        → value ≡ rows_partly_down first (row + 1) end n cell at (row - n) c
        → cond (r == row) value (rows_partly_down first (row + 1) end n cell at r c) ≡ rows_partly_down first row end n cell at r c
    down_case at first row end n cell r c value le row_in few e = grind (arith, nat_tests)

pub one_row_free_down : (old mid new : SurfaceView) (area : Area) (first row end n : ℕ) (cell : CellView) → IsPart old area → first ≤ row → row < end → end ≤ area.rows → row - first < n
    → Changes old mid area (rows_partly_down first (row + 1) end n cell)
    → RunIs mid new (area.top + row) area.left (area.left + area.columns) (λ _. cell)
    → Changes old new area (rows_partly_down first row end n cell)
one_row_free_down old mid new area first row end n cell part le row_in end_in many h run =
    whole_row old mid new area _ _ row _ part h run (omega arith) (λ r c b k. free_case (inside_at old area) first row end n cell r c le row_in many)
  where
    free_case : (at : ℕ → ℕ → CellView) (first row end n : ℕ) (cell : CellView) (r c : ℕ) → first ≤ row → row < end → row - first < n
        → cond (r == row) cell (rows_partly_down first (row + 1) end n cell at r c) ≡ rows_partly_down first row end n cell at r c
    free_case at first row end n cell r c le row_in many = grind (arith, nat_tests)

pub opened : (old mid new : SurfaceView) (area : Area) (row column : ℕ) (cell : CellView) → IsSurface old → IsPart old area → row < area.rows → column < area.columns
    → RunIs old mid (area.top + row) (area.left + column + 1) (area.left + column + 1 + (area.left + area.columns - 1 - (area.left + column))) (λ c. cell_of old (area.top + row) (area.left + column + (c - (area.left + column + 1))))
    → RunIs mid new (area.top + row) (area.left + column) (area.left + column + 1) (λ _. cell)
    → Changes old new area (row_opened row column cell)
opened old mid new area row column cell surface part row_in column_in run1 run2 =
    let from : area.left + column + 1 ≡ area.left + (column + 1) = omega arith in
    let to : area.left + column + 1 + (area.left + area.columns - 1 - (area.left + column)) ≡ area.left + area.columns = omega arith in
    let moved : (ℕ → ℕ → CellView) → ℕ → ℕ → CellView = λ at r c. cond (r == row && leb (column + 1) c) (at r (c - 1)) (at r c) in
    let at : ℕ → ℕ → CellView = inside_at old area in
    let first : Changes old mid area moved = then_run old old mid area (λ f. f) moved row (column + 1) area.columns _ part (unchanged old area (λ f. f) surface (λ r c h k. refl)) (run_at _ _ from to run1) row_in (omega arith) (λ r c h k.
    moved_case at row column area.columns r c _ k (λ e l. ap2 (cell_of old) (omega arith) (omega arith))) in
    then_run old mid new area moved (row_opened row column cell) row column (column + 1) (λ _. cell) part first (run_at _ _ refl from run2) row_in (omega arith) (λ r c h k. put_case at row column r c cell)
  where
    moved_case : (at : ℕ → ℕ → CellView) (row column columns r c : ℕ) (value : CellView) → c < columns → (r ≡ row → column + 1 ≤ c → value ≡ at r (c - 1))
        → cond (r == row && leb (column + 1) c && ltb c columns) value (at r c) ≡ cond (r == row && leb (column + 1) c) (at r (c - 1)) (at r c)
    moved_case at row column columns r c value k e = grind (arith, nat_tests)

    put_case : (at : ℕ → ℕ → CellView) (row column r c : ℕ) (cell : CellView)
        → cond (r == row && leb column c && ltb c (column + 1)) cell (cond (r == row && leb (column + 1) c) (at r (c - 1)) (at r c)) ≡ row_opened row column cell at r c
    put_case at row column r c cell = grind (arith, nat_tests)

pub closed : (old mid new : SurfaceView) (area : Area) (row column : ℕ) (cell : CellView) → IsSurface old → IsPart old area → row < area.rows → column < area.columns
    → RunIs old mid (area.top + row) (area.left + column) (area.left + column + (area.left + area.columns - (area.left + column + 1))) (λ c. cell_of old (area.top + row) (area.left + column + 1 + (c - (area.left + column))))
    → RunIs mid new (area.top + row) (area.left + area.columns - 1) (area.left + area.columns) (λ _. cell)
    → Changes old new area (row_closed area.columns row column cell)
closed old mid new area row column cell surface part row_in column_in run1 run2 =
    let to : area.left + column + (area.left + area.columns - (area.left + column + 1)) ≡ area.left + (area.columns - 1) = omega arith in
    let last : area.left + area.columns - 1 ≡ area.left + (area.columns - 1) = omega arith in
    let moved : (ℕ → ℕ → CellView) → ℕ → ℕ → CellView = λ at r c. cond (r == row && leb column c && ltb c (area.columns - 1)) (at r (c + 1)) (at r c) in
    let at : ℕ → ℕ → CellView = inside_at old area in
    let first : Changes old mid area moved = then_run old old mid area (λ f. f) moved row column (area.columns - 1) _ part (unchanged old area (λ f. f) surface (λ r c h k. refl)) (run_at _ _ refl to run1) row_in (omega arith) (λ r c h k.
    moved_case at row column (area.columns - 1) r c _ (λ e l. ap2 (cell_of old) (omega arith) (omega arith))) in
    then_run old mid new area moved (row_closed area.columns row column cell) row (area.columns - 1) area.columns (λ _. cell) part first (run_at _ _ last refl run2) row_in (omega arith) (λ r c h k. put_case at area.columns row column r c cell k column_in)
  where
    moved_case : (at : ℕ → ℕ → CellView) (row column last r c : ℕ) (value : CellView) → (r ≡ row → column ≤ c → value ≡ at r (c + 1))
        → cond (r == row && leb column c && ltb c last) value (at r c) ≡ cond (r == row && leb column c && ltb c last) (at r (c + 1)) (at r c)
    moved_case at row column last r c value e = grind (arith, nat_tests)

    put_case : (at : ℕ → ℕ → CellView) (columns row column r c : ℕ) (cell : CellView) → c < columns → column < columns
        → cond (r == row && leb (columns - 1) c && ltb c columns) cell (cond (r == row && leb column c && ltb c (columns - 1)) (at r (c + 1)) (at r c)) ≡ row_closed columns row column cell at r c
    put_case at columns row column r c cell k l = grind (arith, nat_tests)

-- the row of the place from it on, and the rows below it up to one, are put
abbrev pub below_partly : ℕ → ℕ → ℕ → CellView → (ℕ → ℕ → CellView) → ℕ → ℕ → CellView
below_partly y x row cell at r c = if (r == y && leb x c) || (ltb y r && ltb r row) then cell else at r c

pub below_first : (old new : SurfaceView) (area : Area) (y x : ℕ) (cell : CellView) → IsSurface old → IsPart old area → y < area.rows
    → RunIs old new (area.top + y) (area.left + x) (area.left + area.columns) (λ _. cell) → Changes old new area (below_partly y x (y + 1) cell)
below_first old new area y x cell surface part row_in run =
    then_run old old new area (λ at. at) (below_partly y x (y + 1) cell) y x area.columns (λ _. cell) part (unchanged old area (λ at. at) surface (λ r c h k. refl)) run row_in (omega arith)
    (λ r c h k. first_case (inside_at old area) y x area.columns r c cell k)
  where
    first_case : (at : ℕ → ℕ → CellView) (y x columns r c : ℕ) (cell : CellView) → c < columns → cond (r == y && leb x c && ltb c columns) cell (at r c) ≡ below_partly y x (y + 1) cell at r c
    first_case at y x columns r c cell k = grind (arith, nat_tests)

pub below_more : (old mid new : SurfaceView) (area : Area) (y x row : ℕ) (cell : CellView) → IsPart old area → y < row → row < area.rows → Changes old mid area (below_partly y x row cell)
    → RunIs mid new (area.top + row) area.left (area.left + area.columns) (λ _. cell) → Changes old new area (below_partly y x (row + 1) cell)
below_more old mid new area y x row cell part le row_in h run =
    whole_row old mid new area _ _ row (λ _. cell) part h run row_in (λ r c b k. more_case (inside_at old area) y x row r c cell le)
  where
    more_case : (at : ℕ → ℕ → CellView) (y x row r c : ℕ) (cell : CellView) → y < row → cond (r == row) cell (below_partly y x row cell at r c) ≡ below_partly y x (row + 1) cell at r c
    more_case at y x row r c cell le = grind (arith, nat_tests)

pub below_all : (old new : SurfaceView) (area : Area) (y x : ℕ) (cell : CellView) → Changes old new area (below_partly y x area.rows cell) → Changes old new area (below_put y x cell)
below_all old new area y x cell h = record {
  same_rows = h.same_rows;
  same_columns = h.same_columns;
  surface = h.surface;
  outside = h.outside;
  inside = λ r c b k. h.inside r c b k ∙ all_case (inside_at old area) y x area.rows r c cell b;
}
  where
    all_case : (at : ℕ → ℕ → CellView) (y x rows r c : ℕ) (cell : CellView) → r < rows → below_partly y x rows cell at r c ≡ below_put y x cell at r c
    all_case at y x rows r c cell b = grind (arith, nat_tests)

pub column_begun : (old : SurfaceView) (area : Area) (column first : ℕ) (cell : CellView) → IsSurface old → Changes old old area (column_put column first first cell)
column_begun old area column first cell surface = unchanged old area _ surface (λ r c b k. none (inside_at old area) column first cell r c)
  where
    none : (at : ℕ → ℕ → CellView) (column first : ℕ) (cell : CellView) (r c : ℕ) → at r c ≡ column_put column first first cell at r c
    none at column first cell r c = grind (arith, nat_tests)

pub column_more : (old mid new : SurfaceView) (area : Area) (column first row : ℕ) (cell : CellView) → IsPart old area → column < area.columns → first ≤ row → row < area.rows
    → Changes old mid area (column_put column first row cell) → RunIs mid new (area.top + row) (area.left + column) (area.left + column + 1) (λ _. cell)
    → Changes old new area (column_put column first (row + 1) cell)
column_more old mid new area column first row cell part column_in le row_in h run =
    let end : area.left + column + 1 ≡ area.left + (column + 1) = omega arith in
    then_run old mid new area _ _ row column (column + 1) (λ _. cell) part h (run_at _ _ refl end run) row_in (omega arith) (λ r c b k. one (inside_at old area) column first row cell r c le)
  where
    one : (at : ℕ → ℕ → CellView) (column first row : ℕ) (cell : CellView) (r c : ℕ) → first ≤ row
        → cond (r == row && leb column c && ltb c (column + 1)) cell (column_put column first row cell at r c) ≡ column_put column first (row + 1) cell at r c
    one at column first row cell r c le = grind (arith, nat_tests)

-- the rows up to one are exchanged, and the others not yet
abbrev pub partly_exchanged : ℕ → CellView → CellView → (ℕ → ℕ → CellView) → ℕ → ℕ → CellView
partly_exchanged row old new at r c = if ltb r row then exchanged old new (at r c) else at r c

pub exchange_begun : (before : SurfaceView) (area : Area) (old new : CellView) → IsSurface before → Changes before before area (partly_exchanged 0 old new)
exchange_begun before area old new surface = unchanged before area _ surface (λ r c b k. none (inside_at before area r c) (exchanged old new (inside_at before area r c)) r)
  where
    none : (cell other : CellView) (r : ℕ) → cell ≡ cond (ltb r 0) other cell
    none cell other r = grind (arith, nat_tests)

pub exchange_more : (before mid after : SurfaceView) (area : Area) (row : ℕ) (old new : CellView) → IsPart before area → row < area.rows → Changes before mid area (partly_exchanged row old new)
    → RunIs mid after (area.top + row) area.left (area.left + area.columns) (λ c. exchanged old new (cell_of mid (area.top + row) c)) → Changes before after area (partly_exchanged (row + 1) old new)
exchange_more before mid after area row old new part row_in h run =
    whole_row before mid after area _ _ row _ part h run row_in (λ r c b k.
    one (inside_at before area) row r c (exchanged old new) (exchanged old new (cell_of mid (area.top + row) (area.left + c)))
    (ap (exchanged old new) (h.inside row c row_in k ∙ here (inside_at before area) row c (exchanged old new))))
  where
    here : (at : ℕ → ℕ → CellView) (row c : ℕ) (f : CellView → CellView) → cond (ltb row row) (f (at row c)) (at row c) ≡ at row c
    here at row c f = grind (arith, nat_tests)

    one : (at : ℕ → ℕ → CellView) (row r c : ℕ) (f : CellView → CellView) (value : CellView) → value ≡ f (at row c)
        → cond (r == row) value (cond (ltb r row) (f (at r c)) (at r c)) ≡ cond (ltb r (row + 1)) (f (at r c)) (at r c)
    one at row r c f value e = grind (arith, nat_tests)

pub exchange_all : (before after : SurfaceView) (area : Area) (old new : CellView) → Changes before after area (partly_exchanged area.rows old new) → Changes before after area (all_exchanged old new)
exchange_all before after area old new h = record {
  same_rows = h.same_rows;
  same_columns = h.same_columns;
  surface = h.surface;
  outside = h.outside;
  inside = λ r c b k. h.inside r c b k ∙ all (inside_at before area r c) (exchanged old new (inside_at before area r c)) r area.rows b;
}
  where
    all : (cell other : CellView) (r rows : ℕ) → r < rows → cond (ltb r rows) other cell ≡ other
    all cell other r rows b = grind (arith, nat_tests)

-- the same rows, counted on the surface
pub row_up_there : (old mid new : SurfaceView) (area : Area) (first end n there : ℕ) (cell : CellView) → IsPart old area → area.top + first ≤ there → there < area.top + end → end ≤ area.rows → n < area.top + end - there
    → Changes old mid area (rows_partly_up first (there - area.top) end n cell)
    → RunIs mid new there area.left (area.left + (area.left + area.columns - area.left)) (λ c. cell_of mid (there + n) (area.left + (c - area.left)))
    → Changes old new area (rows_partly_up first (there + 1 - area.top) end n cell)
row_up_there old mid new area first end n there cell part le row_in end_in few h run =
    let row : ℕ = there - area.top in
    let here : there ≡ area.top + row = omega arith in
    let next : row + 1 ≡ there + 1 - area.top = omega arith in
    let P : ℕ → Type 0 = λ x. RunIs mid new x area.left (area.left + (area.left + area.columns - area.left)) (λ c. cell_of mid (x + n) (area.left + (c - area.left))) in
    let Q : ℕ → Type 0 = λ x. Changes old new area (rows_partly_up first x end n cell) in
    subst Q next (one_row_up old mid new area first row end n cell part (omega arith) (omega arith) end_in (omega arith) h (subst P here run))

pub row_free_up_there : (old mid new : SurfaceView) (area : Area) (first end n there : ℕ) (cell : CellView) → IsPart old area → area.top + first ≤ there → there < area.top + end → end ≤ area.rows → area.top + end - there ≤ n
    → Changes old mid area (rows_partly_up first (there - area.top) end n cell)
    → RunIs mid new there area.left (area.left + area.columns) (λ _. cell)
    → Changes old new area (rows_partly_up first (there + 1 - area.top) end n cell)
row_free_up_there old mid new area first end n there cell part le row_in end_in many h run =
    let row : ℕ = there - area.top in
    let here : there ≡ area.top + row = omega arith in
    let next : row + 1 ≡ there + 1 - area.top = omega arith in
    let P : ℕ → Type 0 = λ x. RunIs mid new x area.left (area.left + area.columns) (λ _. cell) in
    let Q : ℕ → Type 0 = λ x. Changes old new area (rows_partly_up first x end n cell) in
    subst Q next (one_row_free_up old mid new area first row end n cell part (omega arith) (omega arith) end_in (omega arith) h (subst P here run))

pub row_down_there : (old mid new : SurfaceView) (area : Area) (first end n done there : ℕ) (cell : CellView) → IsPart old area → there ≡ area.top + end - 1 - done → done < end - first → first ≤ end → end ≤ area.rows → n + done < end - first
    → Changes old mid area (rows_partly_down first (end - done) end n cell)
    → RunIs mid new there area.left (area.left + (area.left + area.columns - area.left)) (λ c. cell_of mid (there - n) (area.left + (c - area.left)))
    → Changes old new area (rows_partly_down first (end - (done + 1)) end n cell)
row_down_there old mid new area first end n done there cell part is row_in order end_in few h run =
    let row : ℕ = end - 1 - done in
    let here : there ≡ area.top + row = omega arith in
    let now : end - done ≡ row + 1 = omega arith in
    let next : row ≡ end - (done + 1) = omega arith in
    let P : ℕ → Type 0 = λ x. RunIs mid new x area.left (area.left + (area.left + area.columns - area.left)) (λ c. cell_of mid (x - n) (area.left + (c - area.left))) in
    let R : ℕ → Type 0 = λ x. Changes old mid area (rows_partly_down first x end n cell) in
    let Q : ℕ → Type 0 = λ x. Changes old new area (rows_partly_down first x end n cell) in
    subst Q next (one_row_down old mid new area first row end n cell part (omega arith) (omega arith) end_in (omega arith) (subst R now h) (subst P here run))

pub row_free_down_there : (old mid new : SurfaceView) (area : Area) (first end n done there : ℕ) (cell : CellView) → IsPart old area → there ≡ area.top + end - 1 - done → done < end - first → first ≤ end → end ≤ area.rows → end - first ≤ n + done
    → Changes old mid area (rows_partly_down first (end - done) end n cell)
    → RunIs mid new there area.left (area.left + area.columns) (λ _. cell)
    → Changes old new area (rows_partly_down first (end - (done + 1)) end n cell)
row_free_down_there old mid new area first end n done there cell part is row_in order end_in many h run =
    let row : ℕ = end - 1 - done in
    let here : there ≡ area.top + row = omega arith in
    let now : end - done ≡ row + 1 = omega arith in
    let next : row ≡ end - (done + 1) = omega arith in
    let P : ℕ → Type 0 = λ x. RunIs mid new x area.left (area.left + area.columns) (λ _. cell) in
    let R : ℕ → Type 0 = λ x. Changes old mid area (rows_partly_down first x end n cell) in
    let Q : ℕ → Type 0 = λ x. Changes old new area (rows_partly_down first x end n cell) in
    subst Q next (one_row_free_down old mid new area first row end n cell part (omega arith) (omega arith) end_in (omega arith) (subst R now h) (subst P here run))

pub up_begun : (old : SurfaceView) (area : Area) (first end n there : ℕ) (cell : CellView) → IsSurface old → there ≡ area.top + first → Changes old old area (rows_partly_up first (there - area.top) end n cell)
up_begun old area first end n there cell surface is =
    let e : first ≡ there - area.top = omega arith in
    let P : ℕ → Type 0 = λ x. Changes old old area (rows_partly_up first x end n cell) in
    subst P e (unchanged old area _ surface (λ r c b k. none (inside_at old area) first end n cell r c))
  where
    none : (at : ℕ → ℕ → CellView) (first end n : ℕ) (cell : CellView) (r c : ℕ) → at r c ≡ rows_partly_up first first end n cell at r c
    none at first end n cell r c = grind (arith, nat_tests)
