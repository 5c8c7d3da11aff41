-- Rows and places of a grid that move, one row or run after another.
use Rattle.std.proofs.Common.{◌≡◌, ℕ, Bool, true, false, ◌+◌, ◌-◌, ◌<◌, ◌≤◌, ◌==◌, sym, ◌∙◌, ap, refl, arith, List, length, take, drop, get_or, replicate, zero, suc, cond, ltb, leb, ◌&&◌, if◌then◌else◌, slice_range}
use Rattle.std.proofs.lemmas.List.{get_or-drop, get_or-take, length-drop, length-replicate, length-take-le}
use Rattle.std.proofs.lemmas.Bool.Decides.{nat_tests}
use Rattle.scr_cells.specs.Grids.{GridView, IsGrid, grid_at, grid_of, grid_row, grid_with_run, is_in_run, places_left, places_right}
use Rattle.scr_cells.proofs.BuiltLaws.{map_range}
use Rattle.scr_cells.proofs.PlaceLaws.{at_formula, formula_is_grid, grid_is_places, run_is_formula}

-- a grid of the same size that has what a formula gives
abbrev pub formed : {A : Type 0} → GridView A → (ℕ → ℕ → A) → GridView A
formed g f = record g { lines = grid_of g.rows g.columns f }

pub same_places : {A : Type 0} (rows columns : ℕ) (f g : ℕ → ℕ → A) → ((r c : ℕ) → r < rows → c < columns → f r c ≡ g r c) → grid_of rows columns f ≡ grid_of rows columns g
same_places rows columns f g h = map_range _ _ 0 rows (λ r z b. map_range (f r) (g r) 0 columns (λ c y k. h r c (omega arith) (omega arith)))

pub formed_alike : {A : Type 0} (g h : GridView A) (f f2 : ℕ → ℕ → A) → h ≡ formed g f → ((r c : ℕ) → r < g.rows → c < g.columns → f r c ≡ f2 r c) → h ≡ formed g f2
formed_alike {A} g h f f2 is same = is ∙ ap {A = List (List A)} (λ x. record g { lines = x }) (same_places g.rows g.columns f f2 same)

-- nothing has moved yet
pub formed_begun : {A : Type 0} (x : A) (g : GridView A) (f : ℕ → ℕ → A) → IsGrid g.rows g.columns g.lines → ((r c : ℕ) → r < g.rows → c < g.columns → grid_at x g.lines r c ≡ f r c) → g ≡ formed g f
formed_begun {A} x g f is same =
    formed_alike g g (grid_at x g.lines) f (ap {A = List (List A)} (λ lines. record g { lines = lines }) (grid_is_places x g.rows g.columns g.lines is)) same

in_case : {X : Type 0} (b : Bool) (p q y z : X) → (b ≡ true → p ≡ q) → y ≡ z → cond b p y ≡ cond b q z
in_case true p q y z e f = e refl
in_case false p q y z e f = f

repeated : {A : Type 0} (x : A) (n k : ℕ) → get_or (replicate n x) k x ≡ x
repeated x zero k = refl
repeated x (suc n) zero = refl
repeated x (suc n) (suc k) = repeated x n k

-- a run that is put in a row
run_formed : {A : Type 0} (x : A) (g : GridView A) (f f2 : ℕ → ℕ → A) (row from n : ℕ) (run : List A) → row < g.rows → length run ≡ n → from + n ≤ g.columns
    → ((r c : ℕ) → r < g.rows → c < g.columns → cond (is_in_run row from (from + n) r c) (get_or run (c - from) x) (f r c) ≡ f2 r c)
    → grid_with_run (grid_of g.rows g.columns f) row from run ≡ grid_of g.rows g.columns f2
run_formed x g f f2 row from n run row_in len fits same =
    run_is_formula x g.rows g.columns (grid_of g.rows g.columns f) row from run (formula_is_grid g.rows g.columns f) row_in (omega (arith, len))
    ∙ same_places g.rows g.columns _ f2 (λ r c h k.
    ap (λ m. cond (is_in_run row from (from + m) r c) (get_or run (c - from) x) (grid_at x (grid_of g.rows g.columns f) r c)) len
    ∙ ap (λ y. cond (is_in_run row from (from + n) r c) (get_or run (c - from) x) y) (at_formula x g.rows g.columns f r c h k) ∙ same r c h k)

-- a run that is filled
pub run_filled : {A : Type 0} (x : A) (g h k : GridView A) (f f2 : ℕ → ℕ → A) (row from end : ℕ) → h ≡ formed g f → row < g.rows → from ≤ end → end ≤ g.columns
    → k ≡ record h { lines = grid_with_run h.lines row from (replicate (end - from) x) }
    → ((r c : ℕ) → r < g.rows → c < g.columns → cond (is_in_run row from end r c) x (f r c) ≡ f2 r c) → k ≡ formed g f2
run_filled {A} x g h k f f2 row from end is row_in order end_in e same =
    let n : ℕ = end - from in
    let ends : from + n ≡ end = omega arith in
    e ∙ ap (λ (v : GridView A). record v { lines = grid_with_run v.lines row from (replicate n x) }) is
    ∙ ap {A = List (List A)} (λ lines. record g { lines = lines }) (run_formed x g f f2 row from n (replicate n x) row_in (length-replicate n x) (omega (arith, ends)) (λ r c b l.
    ap (λ m. cond (is_in_run row from m r c) (get_or (replicate n x) (c - from) x) (f r c)) ends
    ∙ ap (λ y. cond (is_in_run row from end r c) y (f r c)) (repeated x n (c - from)) ∙ same r c b l))

-- a run that is copied from a row
pub run_copied : {A : Type 0} (x : A) (g h k : GridView A) (f f2 : ℕ → ℕ → A) (source start end row to : ℕ) → h ≡ formed g f → source < g.rows → start ≤ end → end ≤ g.columns → row < g.rows → to + (end - start) ≤ g.columns
    → k ≡ record h { lines = grid_with_run h.lines row to (slice_range (grid_row h.lines source) start end) }
    → ((r c : ℕ) → r < g.rows → c < g.columns → cond (is_in_run row to (to + (end - start)) r c) (f source (start + (c - to))) (f r c) ≡ f2 r c) → k ≡ formed g f2
run_copied {A} x g h k f f2 source start end row to is source_in order end_in row_in to_in e same =
    let n : ℕ = end - start in
    let line : List A = grid_row (grid_of g.rows g.columns f) source in
    let run : List A = take n (drop start line) in
    let wide : length line ≡ g.columns = (formula_is_grid g.rows g.columns f).wide source source_in in
    let rest : length (drop start line) ≡ length line - start = length-drop start line in
    let len : length run ≡ n = length-take-le n (drop start line) (omega (arith, wide, rest)) in
    e ∙ ap (λ (v : GridView A). record v { lines = grid_with_run v.lines row to (slice_range (grid_row v.lines source) start end) }) is
    ∙ ap {A = List (List A)} (λ lines. record g { lines = lines }) (run_formed x g f f2 row to n run row_in len to_in (λ r c b l.
    in_case (is_in_run row to (to + n) r c) (get_or run (c - to) x) (f source (start + (c - to))) (f r c) (f r c) (λ t.
    let i_in : c - to < n = inside row to n r c t in
    get_or-take n (drop start line) (c - to) x i_in ∙ get_or-drop start line (c - to) x ∙ at_formula x g.rows g.columns f source (start + (c - to)) source_in (omega arith)) refl ∙ same r c b l))
  where
    inside : (row to n r c : ℕ) → is_in_run row to (to + n) r c ≡ true → c - to < n
    inside row to n r c t = grind (arith, nat_tests)

-- the rows from the first up to one have moved up, and the others not yet
abbrev pub rows_partly_up : {A : Type 0} → ℕ → ℕ → ℕ → ℕ → A → (ℕ → ℕ → A) → ℕ → ℕ → A
rows_partly_up first row end n x at r c = if leb first r && ltb r row then (if ltb (r + n) end then at (r + n) c else x) else at r c

-- the rows from one up to the end have moved down, and the others not yet
abbrev pub rows_partly_down : {A : Type 0} → ℕ → ℕ → ℕ → ℕ → A → (ℕ → ℕ → A) → ℕ → ℕ → A
rows_partly_down first row end n x at r c = if leb row r && ltb r end then (if leb (first + n) r then at (r - n) c else x) else at r c

-- a whole row that is copied, and one that is filled
row_copied : {A : Type 0} (x : A) (g h k : GridView A) (f f2 : ℕ → ℕ → A) (source row columns : ℕ) → h ≡ formed g f → columns ≡ g.columns → source < g.rows → row < g.rows
    → k ≡ record h { lines = grid_with_run h.lines row 0 (slice_range (grid_row h.lines source) 0 columns) }
    → ((r c : ℕ) → r < g.rows → c < g.columns → cond (r == row) (f source c) (f r c) ≡ f2 r c) → k ≡ formed g f2
row_copied x g h k f f2 source row columns is wide source_in row_in e same =
    run_copied x g h k f f2 source 0 columns row 0 is source_in (omega arith) (omega arith) row_in (omega arith) e (λ r c b l.
    let z : 0 + (c - 0) ≡ c = omega arith in
    ap (λ i. cond (is_in_run row 0 (0 + (columns - 0)) r c) (f source i) (f r c)) z ∙ whole row columns r c (f source c) (f r c) (omega arith) ∙ same r c b l)
  where
    whole : {X : Type 0} (row columns r c : ℕ) (y z : X) → c < columns → cond (is_in_run row 0 (0 + (columns - 0)) r c) y z ≡ cond (r == row) y z
    whole row columns r c y z k = grind (arith, nat_tests)

row_filled : {A : Type 0} (x : A) (g h k : GridView A) (f f2 : ℕ → ℕ → A) (row columns : ℕ) → h ≡ formed g f → columns ≡ g.columns → row < g.rows
    → k ≡ record h { lines = grid_with_run h.lines row 0 (replicate (columns - 0) x) }
    → ((r c : ℕ) → r < g.rows → c < g.columns → cond (r == row) x (f r c) ≡ f2 r c) → k ≡ formed g f2
row_filled x g h k f f2 row columns is wide row_in e same =
    run_filled x g h k f f2 row 0 columns is row_in (omega arith) (omega arith) e (λ r c b l. whole row columns r c x (f r c) (omega arith) ∙ same r c b l)
  where
    whole : {X : Type 0} (row columns r c : ℕ) (y z : X) → c < columns → cond (is_in_run row 0 columns r c) y z ≡ cond (r == row) y z
    whole row columns r c y z k = grind (arith, nat_tests)

pub up_begun : {A : Type 0} (x : A) (g : GridView A) (first end n : ℕ) → IsGrid g.rows g.columns g.lines → g ≡ formed g (rows_partly_up first first end n x (grid_at x g.lines))
up_begun x g first end n is = formed_begun x g _ is (λ r c b l. none (grid_at x g.lines) first end n x r c)
  where
    none : {X : Type 0} (at : ℕ → ℕ → X) (first end n : ℕ) (x : X) (r c : ℕ) → at r c ≡ rows_partly_up first first end n x at r c
    none at first end n x r c = grind (arith, nat_tests)

pub one_row_up : {A : Type 0} (x : A) (g h k : GridView A) (at : ℕ → ℕ → A) (first row end n columns : ℕ) → h ≡ formed g (rows_partly_up first row end n x at) → columns ≡ g.columns → first ≤ row → row + n < end → end ≤ g.rows
    → k ≡ record h { lines = grid_with_run h.lines row 0 (slice_range (grid_row h.lines (row + n)) 0 columns) } → k ≡ formed g (rows_partly_up first (row + 1) end n x at)
one_row_up x g h k at first row end n columns is wide le few end_in e =
    row_copied x g h k _ _ (row + n) row columns is wide (omega arith) (omega arith) e (λ r c b l. up_case at first row end n x r c _ le few refl)
  where
    up_case : {X : Type 0} (at : ℕ → ℕ → X) (first row end n : ℕ) (x : X) (r c : ℕ) (value : X) → first ≤ row → row + n < end → value ≡ rows_partly_up first row end n x at (row + n) c
        → cond (r == row) value (rows_partly_up first row end n x at r c) ≡ rows_partly_up first (row + 1) end n x at r c
    up_case at first row end n x r c value le few e = grind (arith, nat_tests)

pub one_row_free_up : {A : Type 0} (x : A) (g h k : GridView A) (at : ℕ → ℕ → A) (first row end n columns : ℕ) → h ≡ formed g (rows_partly_up first row end n x at) → columns ≡ g.columns → first ≤ row → row < end → end ≤ row + n → end ≤ g.rows
    → k ≡ record h { lines = grid_with_run h.lines row 0 (replicate (columns - 0) x) } → k ≡ formed g (rows_partly_up first (row + 1) end n x at)
one_row_free_up x g h k at first row end n columns is wide le row_in many end_in e =
    row_filled x g h k _ _ row columns is wide (omega arith) e (λ r c b l. free_case at first row end n x r c le row_in many)
  where
    free_case : {X : Type 0} (at : ℕ → ℕ → X) (first row end n : ℕ) (x : X) (r c : ℕ) → first ≤ row → row < end → end ≤ row + n
        → cond (r == row) x (rows_partly_up first row end n x at r c) ≡ rows_partly_up first (row + 1) end n x at r c
    free_case at first row end n x r c le row_in many = grind (arith, nat_tests)

pub down_begun : {A : Type 0} (x : A) (g : GridView A) (first end n : ℕ) → IsGrid g.rows g.columns g.lines → g ≡ formed g (rows_partly_down first (end - 0) end n x (grid_at x g.lines))
down_begun x g first end n is = formed_begun x g _ is (λ r c b l. none (grid_at x g.lines) first end n x r c)
  where
    none : {X : Type 0} (at : ℕ → ℕ → X) (first end n : ℕ) (x : X) (r c : ℕ) → at r c ≡ rows_partly_down first (end - 0) end n x at r c
    none at first end n x r c = grind (arith, nat_tests)

pub one_row_down : {A : Type 0} (x : A) (g h k : GridView A) (at : ℕ → ℕ → A) (first end n done columns : ℕ) → h ≡ formed g (rows_partly_down first (end - done) end n x at) → columns ≡ g.columns → first + n + done < end → end ≤ g.rows
    → k ≡ record h { lines = grid_with_run h.lines (end - 1 - done) 0 (slice_range (grid_row h.lines (end - 1 - done - n)) 0 columns) } → k ≡ formed g (rows_partly_down first (end - (done + 1)) end n x at)
one_row_down x g h k at first end n done columns is wide few end_in e =
    row_copied x g h k _ _ (end - 1 - done - n) (end - 1 - done) columns is wide (omega arith) (omega arith) e (λ r c b l. down_case at first end n done x r c _ few refl)
  where
    down_case : {X : Type 0} (at : ℕ → ℕ → X) (first end n done : ℕ) (x : X) (r c : ℕ) (value : X) → first + n + done < end → value ≡ rows_partly_down first (end - done) end n x at (end - 1 - done - n) c
        → cond (r == end - 1 - done) value (rows_partly_down first (end - done) end n x at r c) ≡ rows_partly_down first (end - (done + 1)) end n x at r c
    down_case at first end n done x r c value few e = grind (arith, nat_tests)

pub one_row_free_down : {A : Type 0} (x : A) (g h k : GridView A) (at : ℕ → ℕ → A) (first end n done columns : ℕ) → h ≡ formed g (rows_partly_down first (end - done) end n x at) → columns ≡ g.columns → done < end - first → end ≤ first + n + done → end ≤ g.rows
    → k ≡ record h { lines = grid_with_run h.lines (end - 1 - done) 0 (replicate (columns - 0) x) } → k ≡ formed g (rows_partly_down first (end - (done + 1)) end n x at)
one_row_free_down x g h k at first end n done columns is wide row_in many end_in e =
    row_filled x g h k _ _ (end - 1 - done) columns is wide (omega arith) e (λ r c b l. free_case at first end n done x r c row_in many)
  where
    free_case : {X : Type 0} (at : ℕ → ℕ → X) (first end n done : ℕ) (x : X) (r c : ℕ) → done < end - first → end ≤ first + n + done
        → cond (r == end - 1 - done) x (rows_partly_down first (end - done) end n x at r c) ≡ rows_partly_down first (end - (done + 1)) end n x at r c
    free_case at first end n done x r c row_in many = grind (arith, nat_tests)

ap2 : {X Y Z : Type 0} (f : X → Y → Z) {a b : X} {c d : Y} → a ≡ b → c ≡ d → f a c ≡ f b d
ap2 f p q = λ i. f (p i) (q i)

-- places of a row that are copied, and what they leave free
pub places_moved_left : {A : Type 0} (x : A) (g h k : GridView A) (row from end n moved : ℕ) → IsGrid g.rows g.columns g.lines → row < g.rows → from ≤ end → end ≤ g.columns → moved ≡ end - from - n
    → h ≡ record g { lines = grid_with_run g.lines row from (slice_range (grid_row g.lines row) (end - moved) end) }
    → k ≡ record h { lines = grid_with_run h.lines row (from + moved) (replicate (end - (from + moved)) x) }
    → k ≡ formed g (places_left row from end n x (grid_at x g.lines))
places_moved_left {A} x g h k row from end n moved is row_in order end_in many e1 e2 =
    let at : ℕ → ℕ → A = grid_at x g.lines in
    let mid : ℕ → ℕ → A = λ r c. cond (is_in_run row from (from + (end - (end - moved))) r c) (at row (end - moved + (c - from))) (at r c) in
    let begun : g ≡ formed g at = formed_begun x g at is (λ r c b l. refl) in
    let first : h ≡ formed g mid = run_copied x g g h at mid row (end - moved) end row from begun row_in (omega arith) end_in row_in (omega arith) e1 (λ r c b l. refl) in
    run_filled x g h k mid _ row (from + moved) end first row_in (omega arith) end_in e2 (λ r c b l.
    left_case at row from end n moved x r c _ order many (λ e f t. ap2 at (sym e) (omega arith)))
  where
    left_case : {X : Type 0} (at : ℕ → ℕ → X) (row from end n moved : ℕ) (x : X) (r c : ℕ) (value : X) → from ≤ end → moved ≡ end - from - n → (r ≡ row → from ≤ c → c < from + moved → value ≡ at r (c + n))
        → cond (is_in_run row (from + moved) end r c) x (cond (is_in_run row from (from + (end - (end - moved))) r c) value (at r c)) ≡ places_left row from end n x at r c
    left_case at row from end n moved x r c value order many e = grind (arith, nat_tests)

pub places_moved_right : {A : Type 0} (x : A) (g h k : GridView A) (row from end n moved : ℕ) → IsGrid g.rows g.columns g.lines → row < g.rows → from ≤ end → end ≤ g.columns → moved ≡ end - from - n
    → h ≡ record g { lines = grid_with_run g.lines row (end - moved) (slice_range (grid_row g.lines row) from (from + moved)) }
    → k ≡ record h { lines = grid_with_run h.lines row from (replicate (end - moved - from) x) }
    → k ≡ formed g (places_right row from end n x (grid_at x g.lines))
places_moved_right {A} x g h k row from end n moved is row_in order end_in many e1 e2 =
    let at : ℕ → ℕ → A = grid_at x g.lines in
    let mid : ℕ → ℕ → A = λ r c. cond (is_in_run row (end - moved) (end - moved + (from + moved - from)) r c) (at row (from + (c - (end - moved)))) (at r c) in
    let begun : g ≡ formed g at = formed_begun x g at is (λ r c b l. refl) in
    let first : h ≡ formed g mid = run_copied x g g h at mid row from (from + moved) row (end - moved) begun row_in (omega arith) (omega arith) row_in (omega arith) e1 (λ r c b l. refl) in
    run_filled x g h k mid _ row from (end - moved) first row_in (omega arith) (omega arith) e2 (λ r c b l.
    right_case at row from end n moved x r c _ order many (λ e f t. ap2 at (sym e) (omega arith)))
  where
    right_case : {X : Type 0} (at : ℕ → ℕ → X) (row from end n moved : ℕ) (x : X) (r c : ℕ) (value : X) → from ≤ end → moved ≡ end - from - n → (r ≡ row → end - moved ≤ c → c < end → value ≡ at r (c - n))
        → cond (is_in_run row from (end - moved) r c) x (cond (is_in_run row (end - moved) (end - moved + (from + moved - from)) r c) value (at r c)) ≡ places_right row from end n x at r c
    right_case at row from end n moved x r c value order many e = grind (arith, nat_tests)
