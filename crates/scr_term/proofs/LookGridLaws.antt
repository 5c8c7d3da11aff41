-- Grids of looks: blank ones, and what a character that is put in a place keeps.
use Rattle.std.proofs.Common.{Bool, true, false, cond, get_or, ◌+◌, ◌-◌, ◌≤◌, ◌≡◌, ◌≢◌, ◌⊎◌, inl, inr, ℕ, zero, suc, ◌<◌, All, List, [], ◌++◌, ap, arith, drop, length, length-append, map, refl, replicate, set, subst, sym, take, ◌∙◌}
use Rattle.std.specs.List.{range_with_len}
use Rattle.std.proofs.Math.ListN.{get_or-eq_default, get_or-map}
use Rattle.std.proofs.lemmas.Simd.{map-map}
use Rattle.std.proofs.lemmas.List.{get_or-set_other, get_or-set_same, length-drop, length-replicate, length-set, length-take, map-set}
use Rattle.std.proofs.lemmas.List.FromFn.{get_or-map-range_with_len, length-map-range_with_len}
use Rattle.std.proofs.lemmas.List.Elements.{All-append, All-cons, All-drop, All-get_or, All-map, All-nil, All-set, All-take}
use Rattle.scr_cells.specs.Grids.{IsGrid, grid_at, grid_filled, grid_of, grid_row, grid_with, grid_with_run, line_with_run, places_left, places_right, rows_down, rows_up}
use Rattle.scr_cells.specs.LookViews.{IsLook, LookView, blank, blank_grid, negative, negative_grid}

same_or_not : (a b : ℕ) → (a ≡ b) ⊎ (a ≢ b)
same_or_not a b = grind arith

-- a place that is changed leaves the grid its size
pub put_is_grid : {A : Type 0} (rows columns : ℕ) (lines : List (List A)) (r c : ℕ) (x : A) → IsGrid rows columns lines → IsGrid rows columns (grid_with lines r c x)
put_is_grid {A} rows columns lines r c x is = record {
  high = length-set lines r line ∙ is.high;
  wide = λ k h. elim (same_or_not k r) [
    | inl e ↦ ap (λ i. length (grid_row (set lines r line) i)) e ∙ ap length (get_or-set_same lines r line [] (omega (arith, is.high))) ∙ length-set (grid_row lines r) c x ∙ is.wide r (omega arith)
    | inr n ↦ ap length (get_or-set_other lines r k line [] n) ∙ is.wide k h
  ];
}
  where
    line : List A
    line = set (grid_row lines r) c x

pub put_all : (rows columns : ℕ) (lines : List (List LookView)) (r c : ℕ) (look : LookView) → IsGrid rows columns lines → r < rows → IsLook look → All (All IsLook) lines → All (All IsLook) (grid_with lines r c look)
put_all rows columns lines r c look is row_in one each =
    All-set (All IsLook) lines r (set (grid_row lines r) c look) (All-set IsLook (grid_row lines r) c look one (All-get_or (All IsLook) lines r [] (omega (arith, is.high)) each)) each

-- the same look in n places of a row one after another
run_length : {A : Type 0} (line : List A) (c n : ℕ) (x : A) → c + n ≤ length line → length (line_with_run line c (replicate n x)) ≡ length line
run_length line c n x fits =
    let run = length-replicate n x in
    omega (arith, fits, run, length-append (take c line ++ replicate n x) (drop (c + length (replicate n x)) line), length-append (take c line) (replicate n x), length-take c line, length-drop (c + length (replicate n x)) line)

pub run_is_grid : {A : Type 0} (rows columns : ℕ) (lines : List (List A)) (r c n : ℕ) (x : A) → IsGrid rows columns lines → r < rows → c + n ≤ columns → IsGrid rows columns (grid_with_run lines r c (replicate n x))
run_is_grid {A} rows columns lines r c n x is row_in fits = record {
  high = length-set lines r line ∙ is.high;
  wide = λ k h. elim (same_or_not k r) [
    | inl e ↦ ap (λ i. length (grid_row (set lines r line) i)) e ∙ ap length (get_or-set_same lines r line [] (omega (arith, is.high, row_in)))
        ∙ run_length (grid_row lines r) c n x (omega (arith, fits, is.wide r row_in)) ∙ is.wide r row_in
    | inr o ↦ ap length (get_or-set_other lines r k line [] o) ∙ is.wide k h
  ];
}
  where
    line : List A
    line = line_with_run (grid_row lines r) c (replicate n x)

all_same : {A : Type 0} (P : A → Type 0) (n : ℕ) (x : A) → P x → All P (replicate n x)
all_same P zero x is = All-nil P
all_same P (suc n) x is = All-cons P x (replicate n x) is (all_same P n x is)

pub run_all : (rows columns : ℕ) (lines : List (List LookView)) (r c n : ℕ) (look : LookView) → IsGrid rows columns lines → r < rows → IsLook look → All (All IsLook) lines
    → All (All IsLook) (grid_with_run lines r c (replicate n look))
run_all rows columns lines r c n look is row_in one each =
    let line = grid_row lines r in
    let run = replicate n look in
    let old : All IsLook line = All-get_or (All IsLook) lines r [] (omega (arith, is.high, row_in)) each in
    All-set (All IsLook) lines r (line_with_run line c run)
    (All-append IsLook (take c line ++ run) (drop (c + length run) line) (All-append IsLook (take c line) run (All-take IsLook c line old) (all_same IsLook n look one)) (All-drop IsLook (c + length run) line old)) each

-- blanks everywhere
abbrev blank_line : ℕ → List LookView
blank_line columns = map (λ (_ : ℕ). blank) (range_with_len 0 columns)

blank_row : (rows columns r : ℕ) → r < rows → grid_row (blank_grid rows columns) r ≡ blank_line columns
blank_row rows columns r h = get_or-map-range_with_len (λ (_ : ℕ). blank_line columns) 0 rows r r [] h (omega arith)

pub is_blank : (rows columns : ℕ) → IsGrid rows columns (blank_grid rows columns)
is_blank rows columns = record {
  high = length-map-range_with_len _ 0 rows;
  wide = λ r h. ap length (blank_row rows columns r h) ∙ length-map-range_with_len _ 0 columns;
}

pub all_blank : (rows columns : ℕ) → All (All IsLook) (blank_grid rows columns)
all_blank rows columns =
    let look : IsLook blank = record { character = refl; pen = record { attributes = omega arith; foreground = tt; background = tt } } in
    All-map (All IsLook) (λ (_ : ℕ). blank_line columns) (range_with_len 0 rows) (λ k d h. All-map IsLook (λ (_ : ℕ). blank) (range_with_len 0 columns) (λ i e j. look))

-- the negative of blanks is blanks, and that of a look in a place is its negative in that place
pub negative_blank : (rows columns : ℕ) → negative_grid (blank_grid rows columns) ≡ blank_grid rows columns
negative_blank rows columns =
    map-map (map negative) (λ (_ : ℕ). blank_line columns) (range_with_len 0 rows)
    ∙ ap (λ line. map (λ (_ : ℕ). line) (range_with_len 0 rows)) (map-map negative (λ (_ : ℕ). blank) (range_with_len 0 columns))

pub negative_put : (lines : List (List LookView)) (r c : ℕ) (look : LookView) → negative_grid (grid_with lines r c look) ≡ grid_with (negative_grid lines) r c (negative look)
negative_put lines r c look =
    let line : List LookView = set (grid_row lines r) c look in
    map-set (map negative) lines r line
    ∙ ap (set (negative_grid lines) r) (map-set negative (grid_row lines r) c look ∙ ap (λ row. set row c (negative look)) (sym (get_or-map (map negative) lines r [])))

-- ---- some places made blank

look_is : IsLook blank
look_is = record { character = refl; pen = record { attributes = omega arith; foreground = tt; background = tt } }

before_or_not : (a b : ℕ) → (a < b) ⊎ (b ≤ a)
before_or_not a b = grind arith

within : {A : Type 0} → (P : A → Type 0) (xs : List A) (i : ℕ) (d : A) → All P xs → P d → P (get_or xs i d)
within P xs i d each default = elim (before_or_not i (length xs)) [
  | inl h ↦ each i d h
  | inr h ↦ subst P (sym (get_or-eq_default xs d h)) default
]

-- what is in a place, or a blank, is a look
at_is_look : (lines : List (List LookView)) (r c : ℕ) → All (All IsLook) lines → IsLook (grid_at blank lines r c)
at_is_look lines r c each = within IsLook (grid_row lines r) c blank (within (All IsLook) lines r [] each (λ i d h. absurd (omega (arith, h)))) look_is

either : (t : Bool) (look : LookView) → IsLook look → IsLook (cond t blank look)
either true look is = look_is
either false look is = is

-- a grid by a formula that gives looks
pub formed_all : (rows columns : ℕ) (f : ℕ → ℕ → LookView) → ((r c : ℕ) → IsLook (f r c)) → All (All IsLook) (grid_of rows columns f)
formed_all rows columns f each =
    All-map (All IsLook) (λ r. map (f r) (range_with_len 0 columns)) (range_with_len 0 rows) (λ i d h. All-map IsLook _ (range_with_len 0 columns) (λ j e k. each _ _))

pub formed_is_grid : {A : Type 0} (rows columns : ℕ) (f : ℕ → ℕ → A) → IsGrid rows columns (grid_of rows columns f)
formed_is_grid {A} rows columns f = record {
  high = length-map-range_with_len _ 0 rows;
  wide = λ r h. ap length (get_or-map-range_with_len line 0 rows r r [] h (omega arith)) ∙ length-map-range_with_len _ 0 columns;
}
  where
    line : ℕ → List A
    line r = map (f r) (range_with_len 0 columns)

one_of_two : (t : Bool) (x y : LookView) → IsLook x → IsLook y → IsLook (cond t x y)
one_of_two true x y is other = is
one_of_two false x y is other = other

-- what is in a place after rows or places moved is a look
pub up_is_look : (first end n : ℕ) (lines : List (List LookView)) → All (All IsLook) lines → (r c : ℕ) → IsLook (rows_up first end n blank (grid_at blank lines) r c)
up_is_look first end n lines each r c = one_of_two _ _ _ (one_of_two _ _ _ (at_is_look lines (r + n) c each) look_is) (at_is_look lines r c each)

pub down_is_look : (first end n : ℕ) (lines : List (List LookView)) → All (All IsLook) lines → (r c : ℕ) → IsLook (rows_down first end n blank (grid_at blank lines) r c)
down_is_look first end n lines each r c = one_of_two _ _ _ (one_of_two _ _ _ (at_is_look lines (r - n) c each) look_is) (at_is_look lines r c each)

pub left_is_look : (row from end n : ℕ) (lines : List (List LookView)) → All (All IsLook) lines → (r c : ℕ) → IsLook (places_left row from end n blank (grid_at blank lines) r c)
left_is_look row from end n lines each r c = one_of_two _ _ _ (one_of_two _ _ _ (at_is_look lines r (c + n) each) look_is) (at_is_look lines r c each)

pub right_is_look : (row from end n : ℕ) (lines : List (List LookView)) → All (All IsLook) lines → (r c : ℕ) → IsLook (places_right row from end n blank (grid_at blank lines) r c)
right_is_look row from end n lines each r c = one_of_two _ _ _ (one_of_two _ _ _ (at_is_look lines r (c - n) each) look_is) (at_is_look lines r c each)

-- a grid some of whose places are made blank
pub filled_all : (rows columns : ℕ) (inside : ℕ → ℕ → Bool) (lines : List (List LookView)) → All (All IsLook) lines
    → All (All IsLook) (grid_filled rows columns inside (λ _ _. blank) (grid_at blank lines))
filled_all rows columns inside lines each =
    All-map (All IsLook) (λ r. map (λ c. cond (inside r c) blank (grid_at blank lines r c)) (range_with_len 0 columns)) (range_with_len 0 rows)
    (λ i d h. All-map IsLook _ (range_with_len 0 columns) (λ j e k. either _ _ (at_is_look lines _ _ each)))

pub filled_is_grid : (rows columns : ℕ) (inside : ℕ → ℕ → Bool) (old : ℕ → ℕ → LookView) → IsGrid rows columns (grid_filled rows columns inside (λ _ _. blank) old)
filled_is_grid rows columns inside old = formed_is_grid rows columns (λ r c. cond (inside r c) blank (old r c))
