-- Elements one after another, seen as the rows of a grid. The only place where rows are multiplied by columns.
use Rattle.std.proofs.Common.{Vec, subst, ◌≡◌, ◌≢◌, ◌⊎◌, inl, inr, ℕ, ◌+◌, ◌-◌, ◌*◌, ◌<◌, ◌≤◌, sym, ◌∙◌, ap, arith, List, [], ◌++◌, length, map, set, take, drop, get_or, cond, ltb, leb, ◌&&◌, ◌∷◌, replicate, suc}
use Rattle.std.specs.List.{range_with_len, enumerate_from}
use Rattle.std.proofs.lemmas.Nat.{mul-le}
use Rattle.std.proofs.lemmas.List.{same_lists, get_or_append_left, get_or-append_right, get_or-take, get_or-drop, get_or-set_same, get_or-set_other, length-append, length-drop, length-set, length-take-le, append_assoc, drop-drop, drop-take, take-take, set_split, drop-replicate, take-replicate, length-replicate, get_or-replicate, set-append_right, drop_more, take_more, replicate_more, length-map, map_push, with_items_is}
use Rattle.std.proofs.lemmas.List.FromFn.{get_or-map-range_with_len, length-map-range_with_len, length-enumerate_from}
use Rattle.std.proofs.lemmas.Bool.Decides.{nat_tests}
use borrow.Rule.Slice.PartMut.{put_mid}
use Rattle.std.specs.Vec.{with_items}
use Rattle.scr_cells.specs.Grids.{GridView, IsGrid, changed_run, grid_at, grid_of, grid_row, grid_with, grid_with_run, line_with_run, rows_of}

-- a place of an earlier row stands before every place of a later one
pub earlier_row : (columns r c s : ℕ) → r < s → c < columns → r * columns + c < s * columns
earlier_row columns r c s h k =
    let e : (r + 1) * columns ≤ s * columns = mul-le (r + 1) columns s columns (omega arith) (omega arith) in
    omega arith

pub next_row : (columns r s : ℕ) → r < s → r * columns + columns ≤ s * columns
next_row columns r s h =
    let e : (r + 1) * columns ≤ s * columns = mul-le (r + 1) columns s columns (omega arith) (omega arith) in
    omega arith

below_or_not : (a b : ℕ) → (a < b) ⊎ (b ≤ a)
below_or_not a b = grind arith

same_or_apart : (a b : ℕ) → (a ≡ b) ⊎ ((a < b) ⊎ (b < a))
same_or_apart a b = grind arith

pub row_of_rows : {A : Type 0} (rows columns : ℕ) (items : List A) (r : ℕ) → r < rows → grid_row (rows_of rows columns items) r ≡ take columns (drop (r * columns) items)
row_of_rows rows columns items r h = get_or-map-range_with_len (λ i. take columns (drop (i * columns) items)) 0 rows r r [] h (omega arith)

row_length : {A : Type 0} (rows columns : ℕ) (items : List A) (r : ℕ) → length items ≡ rows * columns → r < rows → length (take columns (drop (r * columns) items)) ≡ columns
row_length rows columns items r len h =
    let e : r * columns + columns ≤ rows * columns = next_row columns r rows h in
    let l : length (drop (r * columns) items) ≡ length items - r * columns = length-drop (r * columns) items in
    length-take-le columns (drop (r * columns) items) (omega (arith, e, l, len))

pub rows_are_grid : {A : Type 0} (rows columns : ℕ) (items : List A) → length items ≡ rows * columns → IsGrid rows columns (rows_of rows columns items)
rows_are_grid rows columns items len = record {
  high = length-map-range_with_len _ 0 rows;
  wide = λ r h. ap length (row_of_rows rows columns items r h) ∙ row_length rows columns items r len h;
}

-- an element after a run is put in place of others
pub get_or-line_with_run : {A : Type 0} (line run : List A) (from i : ℕ) (d : A) → from + length run ≤ length line
    → get_or (line_with_run line from run) i d ≡ cond (leb from i && ltb i (from + length run)) (get_or run (i - from) d) (get_or line i d)
get_or-line_with_run {A} line run from i d fits =
    let head : length (take from line) ≡ from = length-take-le from line (omega arith) in
    let both : length (take from line ++ run) ≡ from + length run = length-append (take from line) run ∙ ap (λ n. n + length run) head in
    elim (below_or_not i from) [
      | inl l ↦ get_or_append_left (take from line ++ run) (drop (from + length run) line) d i (omega (arith, both)) ∙ get_or_append_left (take from line) run d i (omega (arith, head)) ∙ get_or-take from line i d l ∙ outside from (length run) i _ _ (inl l)
      | inr g ↦ elim (below_or_not i (from + length run)) [
        | inl l ↦ get_or_append_left (take from line ++ run) (drop (from + length run) line) d i (omega (arith, both)) ∙ get_or-append_right (take from line) run from i d head g ∙ inside from (length run) i _ _ g l
        | inr h ↦ (let back : from + length run + (i - (from + length run)) ≡ i = omega arith in
            get_or-append_right (take from line ++ run) (drop (from + length run) line) (from + length run) i d both h ∙ get_or-drop (from + length run) line (i - (from + length run)) d ∙ ap (λ k. get_or line k d) back ∙ outside from (length run) i _ _ (inr h))
      ]
    ]
  where
    outside : {X : Type 0} (from n i : ℕ) (x y : X) → (i < from) ⊎ (from + n ≤ i) → y ≡ cond (leb from i && ltb i (from + n)) x y
    outside from n i x y (inl l) = grind (arith, nat_tests)
    outside from n i x y (inr l) = grind (arith, nat_tests)

    inside : {X : Type 0} (from n i : ℕ) (x y : X) → from ≤ i → i < from + n → x ≡ cond (leb from i && ltb i (from + n)) x y
    inside from n i x y l h = grind (arith, nat_tests)

pub length-line_with_run : {A : Type 0} (line run : List A) (from : ℕ) → from + length run ≤ length line → length (line_with_run line from run) ≡ length line
length-line_with_run line run from fits =
    let head : length (take from line) ≡ from = length-take-le from line (omega arith) in
    let a : length (take from line ++ run) ≡ length (take from line) + length run = length-append (take from line) run in
    let b : length ((take from line ++ run) ++ drop (from + length run) line) ≡ length (take from line ++ run) + length (drop (from + length run) line) = length-append (take from line ++ run) (drop (from + length run) line) in
    let c : length (drop (from + length run) line) ≡ length line - (from + length run) = length-drop (from + length run) line in
    omega (arith, head, a, b, c)

-- a run that is put among the elements is put in its row
pub run_in_row : {A : Type 0} (rows columns : ℕ) (items run : List A) (r c : ℕ) → length items ≡ rows * columns → r < rows → c + length run ≤ columns
    → rows_of rows columns (line_with_run items (r * columns + c) run) ≡ grid_with_run (rows_of rows columns items) r c run
run_in_row {A} rows columns items run r c len row_in fits =
    let old : List (List A) = rows_of rows columns items in
    let new : List (List A) = rows_of rows columns (line_with_run items (r * columns + c) run) in
    let end : r * columns + columns ≤ rows * columns = next_row columns r rows row_in in
    let room : r * columns + c + length run ≤ length items = omega (arith, len, end) in
    let len2 : length (line_with_run items (r * columns + c) run) ≡ rows * columns = length-line_with_run items run (r * columns + c) room ∙ len in
    let high : length old ≡ rows = length-map-range_with_len _ 0 rows in
    let high2 : length new ≡ rows = length-map-range_with_len _ 0 rows in
    let line : List A = line_with_run (grid_row old r) c run in
    same_lists new (set old r line) (high2 ∙ sym high ∙ sym (length-set old r line)) (λ k d h.
    let k_in : k < rows = omega (arith, high2) in
    let e : get_or new k d ≡ take columns (drop (k * columns) (line_with_run items (r * columns + c) run)) = get_or-map-range_with_len _ 0 rows k k d k_in (omega arith) in
    let was : get_or old k d ≡ take columns (drop (k * columns) items) = get_or-map-range_with_len _ 0 rows k k d k_in (omega arith) in
    e ∙ elim (same_or_apart k r) [
      | inl s ↦ ap (λ n. take columns (drop (n * columns) (line_with_run items (r * columns + c) run))) s ∙ this_row rows columns items run r c len row_in fits room len2
          ∙ ap (λ xs. line_with_run xs c run) (sym (row_of_rows rows columns items r row_in)) ∙ sym (get_or-set_same old r line d (omega (arith, high))) ∙ ap (λ n. get_or (set old r line) n d) (sym s)
      | inr o ↦ other_row rows columns items run r c k len fits room len2 k_in o ∙ sym was ∙ sym (get_or-set_other old r k line d (not_same k r o))
    ])
  where
    not_same : (k r : ℕ) → (k < r) ⊎ (r < k) → k ≢ r
    not_same k r (inl l) = λ e. absurd (omega arith)
    not_same k r (inr l) = λ e. absurd (omega arith)

    moved : {X : Type 0} (x : X) (s c n i : ℕ) (y : X) → cond (leb (s + c) (s + i) && ltb (s + i) (s + c + n)) x y ≡ cond (leb c i && ltb i (c + n)) x y
    moved x s c n i y = grind (arith, nat_tests)

    shifted : {X : Type 0} (f : ℕ → X) (s c n i : ℕ) (y : X) → cond (leb (s + c) (s + i) && ltb (s + i) (s + c + n)) (f (s + i - (s + c))) y ≡ cond (leb c i && ltb i (c + n)) (f (i - c)) y
    shifted f s c n i y =
        let e : s + i - (s + c) ≡ i - c = omega arith in
        ap (λ k. cond (leb (s + c) (s + i) && ltb (s + i) (s + c + n)) (f k) y) e ∙ moved (f (i - c)) s c n i y

    this_row : {A : Type 0} (rows columns : ℕ) (items run : List A) (r c : ℕ) → length items ≡ rows * columns → r < rows → c + length run ≤ columns → r * columns + c + length run ≤ length items
        → length (line_with_run items (r * columns + c) run) ≡ rows * columns
        → take columns (drop (r * columns) (line_with_run items (r * columns + c) run)) ≡ line_with_run (take columns (drop (r * columns) items)) c run
    this_row {A} rows columns items run r c len row_in fits room len2 =
        let line : List A = take columns (drop (r * columns) items) in
        let wide : length line ≡ columns = row_length rows columns items r len row_in in
        let wide2 : length (take columns (drop (r * columns) (line_with_run items (r * columns + c) run))) ≡ columns = row_length rows columns (line_with_run items (r * columns + c) run) r len2 row_in in
        let in_line : c + length run ≤ length line = omega (arith, wide) in
        same_lists _ _ (wide2 ∙ sym wide ∙ sym (length-line_with_run line run c in_line)) (λ i d h.
        let i_in : i < columns = omega (arith, wide2) in
        get_or-take columns (drop (r * columns) (line_with_run items (r * columns + c) run)) i d i_in ∙ get_or-drop (r * columns) (line_with_run items (r * columns + c) run) i d
        ∙ get_or-line_with_run items run (r * columns + c) (r * columns + i) d room
        ∙ shifted (λ n. get_or run n d) (r * columns) c (length run) i (get_or items (r * columns + i) d)
        ∙ ap (λ x. cond (leb c i && ltb i (c + length run)) (get_or run (i - c) d) x) (sym (get_or-drop (r * columns) items i d) ∙ sym (get_or-take columns (drop (r * columns) items) i d i_in))
        ∙ sym (get_or-line_with_run line run c i d in_line))

    apart : {X : Type 0} (x y : X) (from i n : ℕ) → (i < from) ⊎ (from + n ≤ i) → cond (leb from i && ltb i (from + n)) x y ≡ y
    apart x y from i n (inl l) = grind (arith, nat_tests)
    apart x y from i n (inr l) = grind (arith, nat_tests)

    kept : {X : Type 0} (x y : X) (columns r c n k i : ℕ) → c + n ≤ columns → i < columns → (k < r) ⊎ (r < k) → cond (leb (r * columns + c) (k * columns + i) && ltb (k * columns + i) (r * columns + c + n)) x y ≡ y
    kept x y columns r c n k i fits i_in (inl l) =
        let e : k * columns + i < r * columns = earlier_row columns k i r l i_in in
        apart x y (r * columns + c) (k * columns + i) n (inl (omega arith))
    kept x y columns r c n k i fits i_in (inr l) =
        let e : r * columns + columns ≤ k * columns = next_row columns r k l in
        apart x y (r * columns + c) (k * columns + i) n (inr (omega arith))

    other_row : {A : Type 0} (rows columns : ℕ) (items run : List A) (r c k : ℕ) → length items ≡ rows * columns → c + length run ≤ columns → r * columns + c + length run ≤ length items
        → length (line_with_run items (r * columns + c) run) ≡ rows * columns → k < rows → (k < r) ⊎ (r < k)
        → take columns (drop (k * columns) (line_with_run items (r * columns + c) run)) ≡ take columns (drop (k * columns) items)
    other_row {A} rows columns items run r c k len fits room len2 k_in o =
        let wide : length (take columns (drop (k * columns) items)) ≡ columns = row_length rows columns items k len k_in in
        let wide2 : length (take columns (drop (k * columns) (line_with_run items (r * columns + c) run))) ≡ columns = row_length rows columns (line_with_run items (r * columns + c) run) k len2 k_in in
        same_lists _ _ (wide2 ∙ sym wide) (λ i d h.
        let i_in : i < columns = omega (arith, wide2) in
        get_or-take columns (drop (k * columns) (line_with_run items (r * columns + c) run)) i d i_in ∙ get_or-drop (k * columns) (line_with_run items (r * columns + c) run) i d
        ∙ get_or-line_with_run items run (r * columns + c) (k * columns + i) d room
        ∙ kept (get_or run (k * columns + i - (r * columns + c)) d) (get_or items (k * columns + i) d) columns r c (length run) k i fits i_in o
        ∙ sym (get_or-drop (k * columns) items i d) ∙ sym (get_or-take columns (drop (k * columns) items) i d i_in))

-- elements one after another, as a grid
abbrev pub seen : {A : Type 0} → ℕ → ℕ → List A → GridView A
seen rows columns items = record { rows = rows; columns = columns; lines = rows_of rows columns items }

pub grid_is : {A : Type 0} (rows columns : ℕ) (items : List A) (g : GridView A) → seen rows columns items ≡ g → length items ≡ rows * columns → IsGrid g.rows g.columns g.lines
grid_is {A} rows columns items g is len =
    let P : GridView A → Type 0 = λ v. IsGrid v.rows v.columns v.lines in
    subst P is (rows_are_grid rows columns items len)

-- where a place of the grid stands among the elements
pub place_is : {A : Type 0} (rows columns : ℕ) (items : List A) (g : GridView A) (r c s : ℕ) → seen rows columns items ≡ g → s ≡ r * g.columns + c → s ≡ r * columns + c
place_is rows columns items g r c s is s_is = s_is ∙ ap (λ n. r * n + c) (sym (ap (λ (v : GridView _). v.columns) is))

-- what a method leaves that puts a run in a row
pub run_is_put : {A : Type 0} (rows columns : ℕ) (items run new : List A) (g : GridView A) (r c : ℕ) → seen rows columns items ≡ g → length items ≡ rows * columns
    → r < g.rows → c + length run ≤ g.columns → new ≡ line_with_run items (r * columns + c) run
    → seen rows columns new ≡ record g { lines = grid_with_run g.lines r c run }
run_is_put {A} rows columns items run new g r c is len row_in fits e =
    let row_in2 : r < rows = omega (arith, ap (λ (v : GridView A). v.rows) is) in
    let fits2 : c + length run ≤ columns = omega (arith, ap (λ (v : GridView A). v.columns) is) in
    ap (seen rows columns) e
    ∙ (λ i. record (seen rows columns items) { lines = run_in_row rows columns items run r c len row_in2 fits2 i })
    ∙ ap (λ (v : GridView A). record v { lines = grid_with_run v.lines r c run }) is

pub run_is_put_at : {A : Type 0} (rows columns : ℕ) (items run new : List A) (g : GridView A) (r c s : ℕ) → seen rows columns items ≡ g → length items ≡ rows * columns
    → r < g.rows → c + length run ≤ g.columns → s ≡ r * g.columns + c → new ≡ line_with_run items s run
    → seen rows columns new ≡ record g { lines = grid_with_run g.lines r c run }
run_is_put_at rows columns items run new g r c s is len row_in fits s_is e =
    run_is_put rows columns items run new g r c is len row_in fits (e ∙ ap (λ k. line_with_run items k run) (place_is rows columns items g r c s is s_is))

-- a part of a row stands in one piece
pub part_is : {A : Type 0} (rows columns : ℕ) (items : List A) (g : GridView A) (r from n s : ℕ) → seen rows columns items ≡ g → r < g.rows → from + n ≤ g.columns → s ≡ r * g.columns + from
    → take n (drop s items) ≡ take n (drop from (grid_row g.lines r))
part_is {A} rows columns items g r from n s is row_in fits s_is =
    let row_in2 : r < rows = omega (arith, ap (λ (v : GridView A). v.rows) is) in
    let fits2 : from + n ≤ columns = omega (arith, ap (λ (v : GridView A). v.columns) is) in
    let wide : columns ≡ from + (columns - from) = omega arith in
    let row : List A = drop (r * columns) items in
    ap (λ k. take n (drop k items)) (place_is rows columns items g r from s is s_is) ∙ ap (take n) (sym (drop-drop from (r * columns) items)) ∙ sym (take-take n (columns - from) (drop from row) (omega arith))
    ∙ ap (take n) (sym (drop-take from (columns - from) row)) ∙ ap (λ w. take n (drop from (take w row))) (sym wide)
    ∙ ap (λ line. take n (drop from line)) (sym (row_of_rows rows columns items r row_in2)) ∙ ap (λ (v : GridView A). take n (drop from (grid_row v.lines r))) is

pub part_length : {A : Type 0} (rows columns : ℕ) (items : List A) (g : GridView A) (r from n : ℕ) → seen rows columns items ≡ g → length items ≡ rows * columns → r < g.rows → from + n ≤ g.columns
    → length (take n (drop from (grid_row g.lines r))) ≡ n
part_length {A} rows columns items g r from n is len row_in fits =
    let wide : length (grid_row g.lines r) ≡ g.columns = (grid_is rows columns items g is len).wide r row_in in
    let l : length (drop from (grid_row g.lines r)) ≡ length (grid_row g.lines r) - from = length-drop from (grid_row g.lines r) in
    length-take-le n (drop from (grid_row g.lines r)) (omega (arith, wide, l))

pub row_is : {A : Type 0} (rows columns : ℕ) (items : List A) (g : GridView A) (r : ℕ) → seen rows columns items ≡ g → r < g.rows → take columns (drop (r * columns) items) ≡ grid_row g.lines r
row_is {A} rows columns items g r is row_in =
    let row_in2 : r < rows = omega (arith, ap (λ (v : GridView A). v.rows) is) in
    sym (row_of_rows rows columns items r row_in2) ∙ ap (λ (v : GridView A). grid_row v.lines r) is

pub element_is : {A : Type 0} (rows columns : ℕ) (items : List A) (g : GridView A) (r c s : ℕ) (d : A) → seen rows columns items ≡ g → r < g.rows → c < g.columns → s ≡ r * g.columns + c → get_or items s d ≡ grid_at d g.lines r c
element_is {A} rows columns items g r c s d is row_in column_in s_is =
    let column_in2 : c < columns = omega (arith, ap (λ (v : GridView A). v.columns) is) in
    ap (λ k. get_or items k d) (place_is rows columns items g r c s is s_is) ∙ sym (get_or-drop (r * columns) items c d) ∙ sym (get_or-take columns (drop (r * columns) items) c d column_in2) ∙ ap (λ line. get_or line c d) (row_is rows columns items g r is row_in)

-- what is left where a part of the elements was lent
pub mid_is_run : {A : Type 0} (xs items ys run : List A) (a s k : ℕ) → xs ≡ items → ys ≡ run → a ≡ s → k ≡ length run → put_mid a k xs ys ≡ line_with_run items s run
mid_is_run xs items ys run a s k xs_is ys_is a_is k_is =
    (λ i. put_mid (a_is i) (k_is i) (xs_is i) (ys_is i)) ∙ sym (append_assoc (take s items) run (drop (length run) (drop s items)))
    ∙ ap (λ rest. (take s items ++ run) ++ rest) (drop-drop (length run) s items)

-- one element put is a run of one
pub one_is_run : {A : Type 0} (line : List A) (c : ℕ) (x : A) → c < length line → set line c x ≡ line_with_run line c (x ∷ [])
one_is_run line c x h =
    let e : suc c ≡ c + 1 = omega arith in
    set_split line c x h ∙ sym (append_assoc (take c line) (x ∷ []) (drop (suc c) line)) ∙ ap (λ n. (take c line ++ x ∷ []) ++ drop n line) e

pub one_is_put : {A : Type 0} (rows columns : ℕ) (items new : List A) (g : GridView A) (r c s : ℕ) (x : A) → seen rows columns items ≡ g → length items ≡ rows * columns
    → r < g.rows → c < g.columns → s ≡ r * g.columns + c → new ≡ set items s x → seen rows columns new ≡ record g { lines = grid_with g.lines r c x }
one_is_put {A} rows columns items new g r c s x is len row_in column_in s_is e =
    let row_in2 : r < rows = omega (arith, ap (λ (v : GridView A). v.rows) is) in
    let column_in2 : c < columns = omega (arith, ap (λ (v : GridView A). v.columns) is) in
    let end : r * columns + columns ≤ rows * columns = next_row columns r rows row_in2 in
    let wide : length (grid_row g.lines r) ≡ g.columns = (grid_is rows columns items g is len).wide r row_in in
    run_is_put rows columns items (x ∷ []) new g r c is len row_in (omega arith) (e ∙ ap (λ k. set items k x) (place_is rows columns items g r c s is s_is) ∙ one_is_run items (r * columns + c) x (omega (arith, len, end)))
    ∙ (λ i. record g { lines = set g.lines r (sym (one_is_run (grid_row g.lines r) c x (omega (arith, wide))) i) })

-- the same element everywhere
pub constant_grid : {A : Type 0} (rows columns : ℕ) (x : A) → rows_of rows columns (replicate (rows * columns) x) ≡ grid_of rows columns (λ _ _. x)
constant_grid {A} rows columns x =
    let items : List A = replicate (rows * columns) x in
    let high : length (rows_of rows columns items) ≡ rows = length-map-range_with_len _ 0 rows in
    let high2 : length (grid_of rows columns (λ (_ _ : ℕ). x)) ≡ rows = length-map-range_with_len _ 0 rows in
    same_lists _ _ (high ∙ sym high2) (λ r d h.
    let row_in : r < rows = omega (arith, high) in
    let end : r * columns + columns ≤ rows * columns = next_row columns r rows row_in in
    get_or-map-range_with_len (λ i. take columns (drop (i * columns) items)) 0 rows r r d row_in (omega arith)
    ∙ ap (take columns) (drop-replicate (r * columns) (rows * columns) x) ∙ take-replicate columns (rows * columns - r * columns) x (omega arith) ∙ same_everywhere x columns
    ∙ sym (get_or-map-range_with_len (λ (_ : ℕ). map (λ (_ : ℕ). x) (range_with_len 0 columns)) 0 rows r r d row_in (omega arith)))
  where
    same_everywhere : {A : Type 0} (x : A) (n : ℕ) → replicate n x ≡ map (λ (_ : ℕ). x) (range_with_len 0 n)
    same_everywhere {A} x n =
        let wide : length (replicate n x) ≡ n = length-replicate n x in
        let wide2 : length (map (λ (_ : ℕ). x) (range_with_len 0 n)) ≡ n = length-map-range_with_len _ 0 n in
        same_lists _ _ (wide ∙ sym wide2) (λ k d h.
        let k_in : k < n = omega (arith, wide) in
        get_or-replicate n k x d k_in ∙ sym (get_or-map-range_with_len (λ (_ : ℕ). x) 0 n k k d k_in (omega arith)))

-- what a method leaves that puts the same element in every place
pub every_place_is : {A : Type 0} (rows columns : ℕ) (items : List A) (g : GridView A) (x : A) (new : List A) → seen rows columns items ≡ g → length items ≡ rows * columns → new ≡ replicate (length items) x
    → seen rows columns new ≡ record g { lines = grid_of g.rows g.columns (λ _ _. x) }
every_place_is {A} rows columns items g x new is len e =
    (λ i. record (seen rows columns items) { lines = (ap (rows_of rows columns) (e ∙ ap (λ n. replicate n x) len) ∙ constant_grid rows columns x) i })
    ∙ ap (λ (v : GridView A). record v { lines = grid_of v.rows v.columns (λ _ _. x) }) is

-- loops over a slice: what is done, and what is left
pub one_filled : {A : Type 0} (old : List A) (n : ℕ) (x : A) → n < length old → set (replicate n x ++ drop n old) n x ≡ replicate (n + 1) x ++ drop (n + 1) old
one_filled old n x h =
    let z : n - n ≡ 0 = omega arith in
    set-append_right (replicate n x) (drop n old) n n x (length-replicate n x) (omega arith)
    ∙ (λ i. replicate n x ++ set (drop_more old n x h i) (z i) x)
    ∙ sym (append_assoc (replicate n x) (x ∷ []) (drop (n + 1) old)) ∙ ap (λ xs. xs ++ drop (n + 1) old) (replicate_more n x)

enumerate_more : {A : Type 0} (from : ℕ) (xs : List A) (x : A) → enumerate_from from (xs ++ x ∷ []) ≡ enumerate_from from xs ++ (from + length xs, x) ∷ []
enumerate_more from [] x = let z : from ≡ from + 0 = omega arith in ap (λ n. (n, x) ∷ []) z
enumerate_more from (y ∷ xs) x =
    let z : from + 1 + length xs ≡ from + suc (length xs) = omega arith in
    ap (λ ys. (from, y) ∷ ys) (enumerate_more (from + 1) xs x ∙ ap (λ n. enumerate_from (from + 1) xs ++ (n, x) ∷ []) z)

pub length-changed_run : {A : Type 0} (f : ℕ → A → A) (from : ℕ) (run : List A) → length (changed_run f from run) ≡ length run
length-changed_run f from run = length-map (enumerate_from from run) (λ p. f p.0 p.1) ∙ length-enumerate_from from run

pub one_changed : {A : Type 0} (f : ℕ → A → A) (from : ℕ) (old : List A) (n : ℕ) (x y : A) → n < length old → x ≡ get_or (changed_run f from (take n old) ++ drop n old) n x → y ≡ f (from + n) x
    → set (changed_run f from (take n old) ++ drop n old) n y ≡ changed_run f from (take (n + 1) old) ++ drop (n + 1) old
one_changed {A} f from old n x y h read is =
    let done : List A = changed_run f from (take n old) in
    let short : length (take n old) ≡ n = length-take-le n old (omega arith) in
    let len : length done ≡ n = length-changed_run f from (take n old) ∙ short in
    let z : n - n ≡ 0 = omega arith in
    let n0 : n + 0 ≡ n = omega arith in
    let at : x ≡ get_or old n x = read ∙ get_or-append_right done (drop n old) n n x len (omega arith) ∙ ap (λ k. get_or (drop n old) k x) z ∙ get_or-drop n old 0 x ∙ ap (λ k. get_or old k x) n0 in
    let more : changed_run f from (take (n + 1) old) ≡ done ++ f (from + n) x ∷ [] =
    ap (changed_run f from) (take_more old n x h) ∙ ap (λ v. changed_run f from (take n old ++ v ∷ [])) (sym at)
    ∙ ap (map (λ p. f p.0 p.1)) (enumerate_more from (take n old) x) ∙ map_push (λ (p : ℕ × A). f p.0 p.1) (enumerate_from from (take n old)) (from + length (take n old), x)
    ∙ ap (λ k. done ++ f (from + k) x ∷ []) short in
    set-append_right done (drop n old) n n y len (omega arith)
    ∙ (λ i. done ++ set (drop_more old n x h i) (z i) y)
    ∙ sym (append_assoc done (y ∷ []) (drop (n + 1) old)) ∙ ap (λ v. (done ++ v ∷ []) ++ drop (n + 1) old) is ∙ ap (λ xs. xs ++ drop (n + 1) old) (sym more)

-- the same where a part of the vector was lent
pub lent_run_is_put : {A Z : Type 0} (rows columns : ℕ) (v : Vec A Z) (xs ys run : List A) (g : GridView A) (r c s k : ℕ) → seen rows columns v.items ≡ g → length v.items ≡ rows * columns
    → r < g.rows → c + length run ≤ g.columns → xs ≡ v.items → ys ≡ run → s ≡ r * g.columns + c → k ≡ length run
    → seen rows columns (with_items v (put_mid s k xs ys)).items ≡ record g { lines = grid_with_run g.lines r c run }
lent_run_is_put {A} rows columns v xs ys run g r c s k is len row_in fits xs_is ys_is s_is k_is =
    let row_in2 : r < rows = omega (arith, ap (λ (v : GridView A). v.rows) is) in
    let fits2 : c + length run ≤ columns = omega (arith, ap (λ (v : GridView A). v.columns) is) in
    let end : r * columns + columns ≤ rows * columns = next_row columns r rows row_in2 in
    let e : put_mid s k xs ys ≡ line_with_run v.items (r * columns + c) run = mid_is_run xs v.items ys run s (r * columns + c) k xs_is ys_is (place_is rows columns v.items g r c s is s_is) k_is in
    let kept : length (put_mid s k xs ys) ≡ v.len = ap length e ∙ length-line_with_run v.items run (r * columns + c) (omega (arith, len, end)) ∙ sym v.ok.0 in
    run_is_put rows columns v.items run _ g r c is len row_in fits (with_items_is v (put_mid s k xs ys) kept ∙ e)

pub place_in : {A : Type 0} (rows columns : ℕ) (items : List A) (g : GridView A) (r c s : ℕ) → seen rows columns items ≡ g → length items ≡ rows * columns → r < g.rows → c < g.columns → s ≡ r * g.columns + c → s < length items
place_in {A} rows columns items g r c s is len row_in column_in s_is =
    let row_in2 : r < rows = omega (arith, ap (λ (v : GridView A). v.rows) is) in
    let column_in2 : c < columns = omega (arith, ap (λ (v : GridView A). v.columns) is) in
    let e : r * columns + c < rows * columns = earlier_row columns r c rows row_in2 column_in2 in
    omega (arith, e, len, place_is rows columns items g r c s is s_is)
