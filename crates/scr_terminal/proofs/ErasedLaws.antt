-- Grids of looks whose places are erased.
use Rattle.std.proofs.Common.{◌≡◌, ◌∙◌, ℕ, zero, suc, ◌+◌, ◌-◌, ◌<◌, ◌≤◌, Bool, List, length, replicate, get_or, map, cond, true, false, ◌||◌, ◌&&◌, nat_lt, ap, sym, refl, arith}
use Rattle.std.specs.List.{range_with_len}
use Rattle.std.proofs.lemmas.List.{length-replicate}
use Rattle.std.proofs.lemmas.Bool.Decides.{nat_tests}
use Rattle.scr_term.specs.Operations.States.{is_from_place}
use Rattle.scr_cells.specs.Grids.{GridView, GridLaws, IsGrid, grid_at, grid_filled, grid_of, grid_with_run, is_in_run}
use Rattle.scr_cells.specs.LookViews.{LookView, blank}

repeated : {A : Type 0} → (x : A) (n k : ℕ) → get_or (replicate n x) k x ≡ x
repeated x zero k = refl
repeated x (suc n) zero = refl
repeated x (suc n) (suc k) = repeated x n k

-- the grid of a view with some of its places made blank
abbrev pub blanked : GridView LookView → (ℕ → ℕ → Bool) → GridView LookView
blanked g inside = record g { lines = grid_filled g.rows g.columns inside (λ _ _. blank) (grid_at blank g.lines) }

-- a run of blanks that is put into a row
pub run_is_blanked : GridLaws LookView → (g h : GridView LookView) (look : LookView) (row from end : ℕ) → IsGrid g.rows g.columns g.lines
    → row < g.rows → from ≤ end → end ≤ g.columns → look ≡ blank
    → h ≡ record g { lines = grid_with_run g.lines row from (replicate (end - from) look) }
    → h ≡ blanked g (is_in_run row from end)
run_is_blanked laws g h look row from end is row_in order end_in same e =
    let run : List LookView = replicate (end - from) blank in
    let len : length run ≡ end - from = length-replicate (end - from) blank in
    let ends : from + length run ≡ end = omega (arith, len) in
    let fits : from + length run ≤ g.columns = omega (arith, ends) in
    let law = laws.run blank g.rows g.columns g.lines row from run is row_in fits in
    e
    ∙ ap {A = LookView} (λ x. record g { lines = grid_with_run g.lines row from (replicate (end - from) x) }) same
    ∙ ap {A = List (List LookView)} (λ x. record g { lines = x }) law
    ∙ ap {A = ℕ} (λ n. record g { lines = grid_filled g.rows g.columns (is_in_run row from n) (λ _ c. get_or run (c - from) blank) (grid_at blank g.lines) }) ends
    ∙ (λ i. record g { lines = grid_filled g.rows g.columns (is_in_run row from end) (λ _ c. repeated blank (end - from) (c - from) i) (grid_at blank g.lines) })

map_range : {X : Type 0} (f g : ℕ → X) (a n : ℕ) → ((k : ℕ) → a ≤ k → k < a + n → f k ≡ g k) → map f (range_with_len a n) ≡ map g (range_with_len a n)
map_range f g a zero h = refl
map_range f g a (suc n) h =
    let e : f a ≡ g a = h a (omega arith) (omega arith) in
    let rest : map f (range_with_len (a + 1) n) ≡ map g (range_with_len (a + 1) n) = map_range f g (a + 1) n (λ k l m. h k (omega arith) (omega arith)) in
    cc

-- grids of two formulas that agree in each place
pub same_places : (rows columns : ℕ) (f g : ℕ → ℕ → LookView) → ((r c : ℕ) → r < rows → c < columns → f r c ≡ g r c) → grid_of rows columns f ≡ grid_of rows columns g
same_places rows columns f g h = map_range _ _ 0 rows (λ r z b. map_range (f r) (g r) 0 columns (λ c y k. h r c (omega arith) (omega arith)))

first_or_second : (p q s : Bool) (old now : LookView) → now ≡ cond p blank old → (q || p) ≡ s → cond q blank now ≡ cond s blank old
first_or_second true true s old now e h = rw (sym h) refl
first_or_second false true s old now e h = rw (sym h) refl
first_or_second true false s old now e h = rw (sym h) e
first_or_second false false s old now e h = rw (sym h) e

same_test : (t u : Bool) (x y : LookView) → t ≡ u → cond t x y ≡ cond u x y
same_test t u x y e = ap (λ b. cond b x y) e

-- places that are made blank one after another
pub blanked_again : GridLaws LookView → (g h k : GridView LookView) (p q s : ℕ → ℕ → Bool) → h ≡ blanked g p → k ≡ blanked h q
    → ((r c : ℕ) → r < g.rows → c < g.columns → (q r c || p r c) ≡ s r c) → k ≡ blanked g s
blanked_again laws g h k p q s first second both =
    let twice : blanked (blanked g p) q ≡ blanked g s =
    ap {A = List (List LookView)} (λ x. record g { lines = x })
    (same_places g.rows g.columns _ _ (λ r c row_in column_in. first_or_second (p r c) (q r c) (s r c) (grid_at blank g.lines r c) _
    (laws.formula blank g.rows g.columns (λ r c. cond (p r c) blank (grid_at blank g.lines r c)) r c row_in column_in) (both r c row_in column_in))) in
    second ∙ ap {A = GridView LookView} (λ x. blanked x q) first ∙ twice

-- the places from one on, as far as a row
abbrev pub is_from_place_above : ℕ → ℕ → ℕ → ℕ → ℕ → Bool
is_from_place_above row column below r c = is_from_place row column r c && nat_lt r below

-- the first row of them
pub first_row : GridLaws LookView → (g h : GridView LookView) (row column : ℕ) → h ≡ blanked g (is_in_run row column g.columns)
    → h ≡ blanked g (is_from_place_above row column (row + 1))
first_row laws g h row column e =
    e ∙ ap {A = List (List LookView)} (λ x. record g { lines = x })
    (same_places g.rows g.columns _ _ (λ r c row_in column_in. same_test _ _ blank (grid_at blank g.lines r c) (grind (arith, nat_tests))))

-- one row more
pub next_row : GridLaws LookView → (g h k : GridView LookView) (row column below : ℕ) → row < below → h ≡ blanked g (is_from_place_above row column below)
    → k ≡ blanked h (is_in_run below 0 g.columns) → k ≡ blanked g (is_from_place_above row column (below + 1))
next_row laws g h k row column below after first second =
    blanked_again laws g h k (is_from_place_above row column below) (is_in_run below 0 g.columns) _ first second (λ r c row_in column_in. grind (arith, nat_tests))

-- the last
pub last_row : (g h : GridView LookView) (row column below : ℕ) → g.rows ≤ below → h ≡ blanked g (is_from_place_above row column below) → h ≡ blanked g (is_from_place row column)
last_row g h row column below past e =
    e ∙ ap {A = List (List LookView)} (λ x. record g { lines = x })
    (same_places g.rows g.columns _ _ (λ r c row_in column_in. same_test _ _ blank (grid_at blank g.lines r c) (grind (arith, nat_tests))))
