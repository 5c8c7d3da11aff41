-- A grid is its places.
use Rattle.std.proofs.Common.{◌≡◌, ◌≢◌, ◌⊎◌, inl, inr, ℕ, Bool, true, false, ◌+◌, ◌-◌, ◌<◌, ◌≤◌, ◌==◌, sym, ◌∙◌, ap, refl, arith, List, [], ◌∷◌, length, map, set, get_or, cond, ltb, leb, ◌&&◌}
use Rattle.std.specs.List.{range_with_len}
use Rattle.std.proofs.lemmas.List.{same_lists, get_or_default, get_or-set_same, get_or-set_other, length-set}
use Rattle.std.proofs.lemmas.List.FromFn.{get_or-map-range_with_len, length-map-range_with_len}
use Rattle.std.proofs.lemmas.Bool.Decides.{nat_tests}
use Rattle.scr_cells.specs.Grids.{GridLaws, IsGrid, grid_at, grid_of, grid_row, grid_with, grid_with_run, is_in_run, line_with_run}
use Rattle.scr_cells.proofs.GridLaws.{get_or-line_with_run, length-line_with_run, one_is_run}

same_or_not : (a b : ℕ) → (a ≡ b) ⊎ (a ≢ b)
same_or_not a b = grind arith

pub row_of_formula : {A : Type 0} (rows columns : ℕ) (f : ℕ → ℕ → A) (r : ℕ) → r < rows → grid_row (grid_of rows columns f) r ≡ map (f r) (range_with_len 0 columns)
row_of_formula rows columns f r h = get_or-map-range_with_len (λ i. map (f i) (range_with_len 0 columns)) 0 rows r r [] h (omega arith)

pub at_formula : {A : Type 0} (other : A) (rows columns : ℕ) (f : ℕ → ℕ → A) (r c : ℕ) → r < rows → c < columns → grid_at other (grid_of rows columns f) r c ≡ f r c
at_formula other rows columns f r c h k = ap (λ line. get_or line c other) (row_of_formula rows columns f r h) ∙ get_or-map-range_with_len (f r) 0 columns c c other k (omega arith)

pub formula_is_grid : {A : Type 0} (rows columns : ℕ) (f : ℕ → ℕ → A) → IsGrid rows columns (grid_of rows columns f)
formula_is_grid rows columns f = record {
  high = length-map-range_with_len _ 0 rows;
  wide = λ r h. ap length (row_of_formula rows columns f r h) ∙ length-map-range_with_len (f r) 0 columns;
}

-- what has a formula's values in its places is the formula's grid
pub grid_is_formula : {A : Type 0} (rows columns : ℕ) (lines : List (List A)) (f : ℕ → ℕ → A) → IsGrid rows columns lines
    → ((r c : ℕ) (d : A) → r < rows → c < columns → get_or (grid_row lines r) c d ≡ f r c) → lines ≡ grid_of rows columns f
grid_is_formula {A} rows columns lines f is same =
    let made : IsGrid rows columns (grid_of rows columns f) = formula_is_grid rows columns f in
    same_lists lines (grid_of rows columns f) (is.high ∙ sym made.high) (λ r d h.
    let r_in : r < rows = omega (arith, is.high) in
    at_any lines r d h ∙ same_lists (grid_row lines r) (grid_row (grid_of rows columns f) r) (is.wide r r_in ∙ sym (made.wide r r_in)) (λ c e k.
    let c_in : c < columns = omega (arith, is.wide r r_in) in
    same r c e r_in c_in ∙ sym (at_formula e rows columns f r c r_in c_in))
    ∙ sym (at_any (grid_of rows columns f) r d (omega (arith, made.high))))
  where
    at_any : {A : Type 0} (lines : List (List A)) (r : ℕ) (d : List A) → r < length lines → get_or lines r d ≡ grid_row lines r
    at_any lines r d h = get_or_default lines r d [] h

pub grid_is_places : {A : Type 0} (other : A) (rows columns : ℕ) (lines : List (List A)) → IsGrid rows columns lines → lines ≡ grid_of rows columns (grid_at other lines)
grid_is_places other rows columns lines is =
    grid_is_formula rows columns lines (grid_at other lines) is (λ r c d h k. get_or_default (grid_row lines r) c d other (omega (arith, is.wide r h)))

-- a row that is changed
with_row_is_grid : {A : Type 0} (rows columns : ℕ) (lines : List (List A)) (row : ℕ) (line : List A) → IsGrid rows columns lines → row < rows → length line ≡ columns → IsGrid rows columns (set lines row line)
with_row_is_grid rows columns lines row line is row_in wide = record {
  high = length-set lines row line ∙ is.high;
  wide = λ r h. elim (same_or_not r row) [
    | inl e ↦ ap (λ k. length (get_or (set lines row line) k [])) e ∙ ap length (get_or-set_same lines row line [] (omega (arith, is.high))) ∙ wide
    | inr n ↦ ap length (get_or-set_other lines row r line [] n) ∙ is.wide r h
  ];
}

pub run_is_formula : {A : Type 0} (other : A) (rows columns : ℕ) (lines : List (List A)) (row from : ℕ) (run : List A) → IsGrid rows columns lines → row < rows → from + length run ≤ columns
    → grid_with_run lines row from run ≡ grid_of rows columns (λ r c. cond (is_in_run row from (from + length run) r c) (get_or run (c - from) other) (grid_at other lines r c))
run_is_formula {A} other rows columns lines row from run is row_in fits =
    let line : List A = line_with_run (grid_row lines row) from run in
    let room : from + length run ≤ length (grid_row lines row) = omega (arith, is.wide row row_in) in
    let new : IsGrid rows columns (set lines row line) = with_row_is_grid rows columns lines row line is row_in (length-line_with_run (grid_row lines row) run from room ∙ is.wide row row_in) in
    grid_is_formula rows columns (set lines row line) _ new (λ r c d h k.
    get_or_default (grid_row (set lines row line) r) c d other (omega (arith, new.wide r h)) ∙ elim (same_or_not r row) [
      | inl e ↦ ap (λ i. get_or (get_or (set lines row line) i []) c other) e ∙ ap (λ xs. get_or xs c other) (get_or-set_same lines row line [] (omega (arith, is.high)))
          ∙ get_or-line_with_run (grid_row lines row) run from c other room ∙ ap (λ i. cond (leb from c && ltb c (from + length run)) (get_or run (c - from) other) (get_or (grid_row lines i) c other)) (sym e)
          ∙ in_row (leb from c && ltb c (from + length run)) row r (leb from c) (ltb c (from + length run)) (get_or run (c - from) other) (grid_at other lines r c) e refl
      | inr n ↦ ap (λ xs. get_or xs c other) (get_or-set_other lines row r line [] n) ∙ other_row row r (leb from c) (ltb c (from + length run)) (get_or run (c - from) other) (grid_at other lines r c) n
    ])
  where
    in_row : {X : Type 0} (b : Bool) (row r : ℕ) (p q : Bool) (x y : X) → r ≡ row → b ≡ (p && q) → cond b x y ≡ cond (r == row && p && q) x y
    in_row b row r p q x y e is = grind (arith, nat_tests)

    other_row : {X : Type 0} (row r : ℕ) (p q : Bool) (x y : X) → r ≢ row → y ≡ cond (r == row && p && q) x y
    other_row row r p q x y n = grind (arith, nat_tests)

pub place_is_formula : {A : Type 0} (other : A) (rows columns : ℕ) (lines : List (List A)) (row column : ℕ) (value : A) → IsGrid rows columns lines → row < rows → column < columns
    → grid_with lines row column value ≡ grid_of rows columns (λ r c. cond (is_in_run row column (column + 1) r c) value (grid_at other lines r c))
place_is_formula {A} other rows columns lines row column value is row_in column_in =
    let run : List A = value ∷ [] in
    ap (set lines row) (one_is_run (grid_row lines row) column value (omega (arith, is.wide row row_in)))
    ∙ run_is_formula other rows columns lines row column run is row_in (omega arith)
    ∙ grid_is_formula rows columns _ _ (formula_is_grid rows columns _) (λ r c d h k.
    at_formula d rows columns (λ r c. cond (is_in_run row column (column + 1) r c) (get_or run (c - column) other) (grid_at other lines r c)) r c h k ∙ one row column r c value other (grid_at other lines r c))
  where
    same : {X : Type 0} (b : Bool) (x z y : X) → (b ≡ true → x ≡ z) → cond b x y ≡ cond b z y
    same true x z y h = h refl
    same false x z y h = refl

    one : {X : Type 0} (row column r c : ℕ) (x other y : X) → cond (is_in_run row column (column + 1) r c) (get_or (x ∷ []) (c - column) other) y ≡ cond (is_in_run row column (column + 1) r c) x y
    one row column r c x other y = same (is_in_run row column (column + 1) r c) _ x y (λ t. let z : c - column ≡ 0 = (grind (arith, nat_tests)) in ap (λ k. get_or (x ∷ []) k other) z)

pub the_laws : (A : Type 0) → GridLaws A
the_laws A = record {
  places = grid_is_places;
  formula = at_formula;
  sized = formula_is_grid;
  run = run_is_formula;
  place = place_is_formula;
}
