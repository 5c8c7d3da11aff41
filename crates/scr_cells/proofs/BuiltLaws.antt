-- Grids that are built row by row.
use Rattle.std.proofs.Common.{◌≡◌, ℕ, ◌+◌, ◌*◌, ◌<◌, ◌≤◌, sym, ◌∙◌, ap, refl, arith, List, [], ◌∷◌, ◌++◌, zero, suc, length, map, take, drop}
use Rattle.std.specs.List.{range_with_len}
use Rattle.std.proofs.lemmas.List.{drop-append-le, length-drop, map-append, take-append-le, take_all}
use Rattle.scr_cells.specs.Grids.{GridView, rows_of}
use Rattle.scr_cells.proofs.GridLaws.{next_row}

range_more : (a n : ℕ) → range_with_len a (n + 1) ≡ range_with_len a n ++ (a + n) ∷ []
range_more a zero = let e : a + 0 ≡ a = omega arith in ap (λ k. k ∷ []) (sym e)
range_more a (suc n) =
    let e : a + 1 + n ≡ a + suc n = omega arith in
    let f : suc n + 1 ≡ suc (n + 1) = omega arith in
    ap (range_with_len a) f ∙ ap (λ ks. a ∷ ks) (range_more (a + 1) n ∙ ap (λ k. range_with_len (a + 1) n ++ k ∷ []) e)

pub map_range : {X : Type 0} (f g : ℕ → X) (a n : ℕ) → ((k : ℕ) → a ≤ k → k < a + n → f k ≡ g k) → map f (range_with_len a n) ≡ map g (range_with_len a n)
map_range f g a zero h = refl
map_range f g a (suc n) h =
    let e : f a ≡ g a = h a (omega arith) (omega arith) in
    let rest : map f (range_with_len (a + 1) n) ≡ map g (range_with_len (a + 1) n) = map_range f g (a + 1) n (λ k l m. h k (omega arith) (omega arith)) in
    cc

-- what is after all elements of a list is nothing
drop_all : {A : Type 0} (xs ys : List A) (n : ℕ) → n ≡ length xs → drop n (xs ++ ys) ≡ ys
drop_all [] ys zero e = refl
drop_all [] ys (suc n) e = absurd (omega (arith, e))
drop_all (x ∷ xs) ys zero e = absurd (omega (arith, e))
drop_all (x ∷ xs) ys (suc n) e = drop_all xs ys n (omega (arith, e))

-- a row more
pub rows_pushed : {A : Type 0} (rows columns : ℕ) (items line : List A) → length items ≡ rows * columns → length line ≡ columns → rows_of (rows + 1) columns (items ++ line) ≡ rows_of rows columns items ++ line ∷ []
rows_pushed {A} rows columns items line many width =
    let f : ℕ → List A = λ r. take columns (drop (r * columns) (items ++ line)) in
    let g : ℕ → List A = λ r. take columns (drop (r * columns) items) in
    let earlier : map f (range_with_len 0 rows) ≡ map g (range_with_len 0 rows) = map_range f g 0 rows (λ r z b.
    let e : r * columns + columns ≤ rows * columns = next_row columns r rows (omega arith) in
    let cut : drop (r * columns) (items ++ line) ≡ drop (r * columns) items ++ line = drop-append-le (r * columns) items line (omega (arith, e, many)) in
    ap (take columns) cut ∙ take-append-le columns (drop (r * columns) items) line (omega (arith, e, many, length-drop (r * columns) items))) in
    let zeroth : 0 + rows ≡ rows = omega arith in
    let last : f (0 + rows) ≡ line = ap f zeroth ∙ ap (take columns) (drop_all items line (rows * columns) (sym many)) ∙ take_all columns line (omega (arith, width)) in
    ap (map f) (range_more 0 rows) ∙ map-append f (range_with_len 0 rows) ((0 + rows) ∷ []) ∙ (λ j. earlier j ++ last j ∷ [])

pub pushed : {A : Type 0} (rows columns : ℕ) (items new line : List A) (g : GridView A) → record { rows = rows; columns = columns; lines = rows_of rows columns items } ≡ g → length items ≡ rows * columns → length line ≡ g.columns → new ≡ items ++ line
    → record { rows = rows + 1; columns = columns; lines = rows_of (rows + 1) columns new } ≡ record g { rows = g.rows + 1; lines = g.lines ++ line ∷ [] }
pushed {A} rows columns items new line g is many width new_is =
    let wide : length line ≡ columns = width ∙ ap (λ (v : GridView A). v.columns) (sym is) in
    let lines : rows_of (rows + 1) columns new ≡ rows_of rows columns items ++ line ∷ [] = ap (rows_of (rows + 1) columns) new_is ∙ rows_pushed rows columns items line many wide in
    (λ j. record { rows = rows + 1; columns = columns; lines = lines j }) ∙ ap (λ (v : GridView A). record v { rows = v.rows + 1; lines = v.lines ++ line ∷ [] }) is

pub many_pushed : {A : Type 0} (rows columns : ℕ) (items new line : List A) → length items ≡ rows * columns → length line ≡ columns → length new ≡ length items + length line → length new ≡ (rows + 1) * columns
many_pushed rows columns items new line many width all = let e : (rows + 1) * columns ≡ rows * columns + columns = omega arith in omega (arith, e, many, width, all)
