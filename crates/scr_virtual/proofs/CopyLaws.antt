-- Lines of a part of a window, copied one after another.
use Rattle.std.proofs.Common.{◌≡◌, ◌≢◌, inl, inr, ℕ, Bool, true, false, ◌+◌, ◌-◌, ◌<◌, ◌≤◌, ◌==◌, ◌&&◌, sym, ◌∙◌, ap, refl, arith, zero, suc, List, length, map, set, get_or, cond, ltb, leb, None, Some}
use Rattle.std.specs.List.{range_with_len}
use Rattle.std.proofs.lemmas.Bool.Decides.{nat_tests}
use Rattle.scr_cells.specs.CellViews.{CellView, blank_cell}
use Rattle.scr_cells.specs.Grids.{GridLaws, IsGrid, grid_at, grid_of, grid_with_run}
use Rattle.scr_virtual.specs.declared.parts.ShownPart.{ShownPart}
use Rattle.scr_virtual.specs.Code.Lines.{copied_cell, line_copied}
use Rattle.scr_virtual.specs.Ranges.{joined, joined_by, ranges_with}
use Rattle.scr_virtual.specs.Taking.{columns_unlike, is_copied, part_cell, part_copied}
use Rattle.scr_virtual.specs.VirtualViews.{VirtualView}
use Rattle.scr_virtual.proofs.RangeLaws.{Range, made_alike, none_put, range_of, range_put, same_or_not}
use Rattle.scr_virtual.proofs.UnlikeLaws.{unlike_alike}

map_range : {X : Type 0} (f g : ℕ → X) (a n : ℕ) → ((k : ℕ) → a ≤ k → k < a + n → f k ≡ g k) → map f (range_with_len a n) ≡ map g (range_with_len a n)
map_range f g a zero h = refl
map_range f g a (suc n) h =
    let e : f a ≡ g a = h a (omega arith) (omega arith) in
    let rest : map f (range_with_len (a + 1) n) ≡ map g (range_with_len (a + 1) n) = map_range f g (a + 1) n (λ k l m. h k (omega arith) (omega arith)) in
    cc

-- formulas that agree in every place make one grid
pub grid_same : (rows columns : ℕ) (f g : ℕ → ℕ → CellView) → ((r c : ℕ) → r < rows → c < columns → f r c ≡ g r c) → grid_of rows columns f ≡ grid_of rows columns g
grid_same rows columns f g h = map_range _ _ 0 rows (λ r z b. map_range (f r) (g r) 0 columns (λ c y k. h r c (omega arith) (omega arith)))

-- so many rows of a part
abbrev pub rows_of_part : ShownPart → ℕ → ShownPart
rows_of_part part rows = record part { rows = rows }

-- the cells of the screen when so many lines of a part are copied
abbrev screen_at : ShownPart → (ℕ → Bool) → (ℕ → ℕ → CellView) → (ℕ → ℕ → CellView) → ℕ → ℕ → ℕ → CellView
screen_at part lines cells was k r c =
    cond (is_copied (rows_of_part part k) lines r && leb part.left c && ltb c (part.left + part.columns)) (cells (part.row + (r - part.top)) (part.column + (c - part.left))) (was r c)

in_row : {X : Type 0} (top left n k r c len : ℕ) (t : Bool) (v w x : X) → r ≡ top + k → t ≡ true → len ≡ n → (left ≤ c → c < left + n → v ≡ w)
    → cond (r == top + k && leb left c && ltb c (left + len)) v (cond ((leb top r && ltb r (top + k) && t) && leb left c && ltb c (left + n)) w x)
    ≡ cond ((leb top r && ltb r (top + (k + 1)) && t) && leb left c && ltb c (left + n)) w x
in_row top left n k r c len t v w x e taken wide h = grind (arith, nat_tests)

other_row : {X : Type 0} (top left n k r c len : ℕ) (t : Bool) (v w x : X) → r ≢ top + k
    → cond (r == top + k && leb left c && ltb c (left + len)) v (cond ((leb top r && ltb r (top + k) && t) && leb left c && ltb c (left + n)) w x)
    ≡ cond ((leb top r && ltb r (top + (k + 1)) && t) && leb left c && ltb c (left + n)) w x
other_row top left n k r c len t v w x e = grind (arith, nat_tests)

-- a row is copied that was not, or another row stays
row_more : (top k r : ℕ) (t : Bool) → r ≡ top + k → t ≡ true → (leb top r && ltb r (top + (k + 1)) && t) ≡ true
row_more top k r t e taken = grind (arith, nat_tests)

row_not_yet : (top k r : ℕ) (t : Bool) → r ≡ top + k → (leb top r && ltb r (top + k) && t) ≡ false
row_not_yet top k r t e = grind (arith, nat_tests)

row_other : (top k r : ℕ) (t : Bool) → r ≢ top + k → (leb top r && ltb r (top + (k + 1)) && t) ≡ (leb top r && ltb r (top + k) && t)
row_other top k r t e = grind (arith, nat_tests)

row_left_out : (top k r : ℕ) (t : Bool) → r ≡ top + k → t ≡ false → (leb top r && ltb r (top + (k + 1)) && t) ≡ (leb top r && ltb r (top + k) && t)
row_left_out top k r t e left = grind (arith, nat_tests)

none_row : (top r : ℕ) (t : Bool) → (leb top r && ltb r (top + 0) && t) ≡ false
none_row top r t = grind (arith, nat_tests)

line_at : (part : ShownPart) (lines : ℕ → Bool) (k r : ℕ) → r ≡ part.top + k → lines (part.row + (r - part.top)) ≡ lines (part.row + k)
line_at part lines k r e = let same : part.row + (r - part.top) ≡ part.row + k = omega (arith, e) in ap lines same

-- one more line is copied
grid_more : GridLaws CellView → (part : ShownPart) (lines : ℕ → Bool) (cells was : ℕ → ℕ → CellView) (rows columns k : ℕ) (run : List CellView) → lines (part.row + k) ≡ true → part.top + k < rows
    → length run ≡ part.columns → part.left + part.columns ≤ columns → ((j : ℕ) → j < part.columns → get_or run j blank_cell ≡ cells (part.row + k) (part.column + j))
    → grid_with_run (grid_of rows columns (screen_at part lines cells was k)) (part.top + k) part.left run ≡ grid_of rows columns (screen_at part lines cells was (k + 1))
grid_more laws part lines cells was rows columns k run taken row_in wide fits same =
    let f : ℕ → ℕ → CellView = screen_at part lines cells was k in
    laws.run blank_cell rows columns (grid_of rows columns f) (part.top + k) part.left run (laws.sized rows columns f) row_in (omega (arith, wide))
    ∙ grid_same rows columns _ _ (λ r c h b.
    ap (λ x. cond (r == part.top + k && leb part.left c && ltb c (part.left + length run)) (get_or run (c - part.left) blank_cell) x) (laws.formula blank_cell rows columns f r c h b)
    ∙ elim (same_or_not r (part.top + k)) [
      | inl e ↦ in_row part.top part.left part.columns k r c (length run) (lines (part.row + (r - part.top))) _ _ (was r c) e (line_at part lines k r e ∙ taken) wide (λ l m.
          same (c - part.left) (omega arith) ∙ ap (λ n. cells n (part.column + (c - part.left))) (let there : part.row + k ≡ part.row + (r - part.top) = omega (arith, e) in there))
      | inr n ↦ other_row part.top part.left part.columns k r c (length run) (lines (part.row + (r - part.top))) _ _ (was r c) n
    ])

-- the range of one more row is what a function makes of it
ranges_more : (part : ShownPart) (lines : ℕ → Bool) (f : ℕ → Range → Range) (ranges : List Range) (k : ℕ) (value : Range) → lines (part.row + k) ≡ true → part.top + k < length ranges → value ≡ f (part.top + k) (get_or ranges (part.top + k) None)
    → set (ranges_with (is_copied (rows_of_part part k) lines) f ranges) (part.top + k) value ≡ ranges_with (is_copied (rows_of_part part (k + 1)) lines) f ranges
ranges_more part lines f ranges k value taken row_in is =
    range_put (is_copied (rows_of_part part k) lines) (is_copied (rows_of_part part (k + 1)) lines) f ranges (part.top + k) value row_in is
    (row_more part.top k (part.top + k) (lines (part.row + (part.top + k - part.top))) refl (line_at part lines k (part.top + k) refl ∙ taken))
    (λ r n. row_other part.top k r (lines (part.row + (r - part.top))) n)

-- that row's range was not changed before
range_before : (part : ShownPart) (lines : ℕ → Bool) (f : ℕ → Range → Range) (ranges : List Range) (k : ℕ) → part.top + k < length ranges → get_or (ranges_with (is_copied (rows_of_part part k) lines) f ranges) (part.top + k) None ≡ get_or ranges (part.top + k) None
range_before part lines f ranges k row_in =
    let there : ℕ = part.top + k in
    range_of (is_copied (rows_of_part part k) lines) f ranges there None row_in
    ∙ ap (λ b. cond b (f there (get_or ranges there None)) (get_or ranges there None)) (row_not_yet part.top k there (lines (part.row + (there - part.top))) refl)

-- nor were its cells
cells_before : GridLaws CellView → (part : ShownPart) (lines : ℕ → Bool) (cells : ℕ → ℕ → CellView) (old : VirtualView) (k c : ℕ) → part.top + k < old.picture.rows → c < old.picture.columns
    → grid_at blank_cell (grid_of old.picture.rows old.picture.columns (screen_at part lines cells (grid_at blank_cell old.picture.lines) k)) (part.top + k) c ≡ grid_at blank_cell old.picture.lines (part.top + k) c
cells_before laws part lines cells old k c row_in wide =
    let there : ℕ = part.top + k in
    laws.formula blank_cell old.picture.rows old.picture.columns (screen_at part lines cells (grid_at blank_cell old.picture.lines) k) there c row_in wide
    ∙ ap (λ b. cond (b && leb part.left c && ltb c (part.left + part.columns)) (part_cell part cells there c) (grid_at blank_cell old.picture.lines there c)) (row_not_yet part.top k there (lines (part.row + (there - part.top))) refl)

-- as far as the lines are copied, one more is
pub line_more : GridLaws CellView → (part : ShownPart) (lines : ℕ → Bool) (cells : ℕ → ℕ → CellView) (old : VirtualView) (k : ℕ) (run : List CellView) → lines (part.row + k) ≡ true
    → part.top + k < old.picture.rows → length old.changed ≡ old.picture.rows → length old.altered ≡ old.picture.rows → length run ≡ part.columns → 1 ≤ part.columns → part.left + part.columns ≤ old.picture.columns
    → ((j : ℕ) → j < part.columns → get_or run j blank_cell ≡ cells (part.row + k) (part.column + j))
    → line_copied (part.top + k) part.left run (part_copied (rows_of_part part k) lines cells old) ≡ part_copied (rows_of_part part (k + 1)) lines cells old
unfolding line_copied part_copied
line_more laws part lines cells old k run taken row_in high altered_high wide some fits same =
    let row : ℕ = part.top + k in
    let was : ℕ → CellView = grid_at blank_cell old.picture.lines row in
    let before : ℕ → CellView = grid_at blank_cell (grid_of old.picture.rows old.picture.columns (screen_at part lines cells (grid_at blank_cell old.picture.lines) k)) row in
    let last : part.left + (length run - 1) ≡ part.left + part.columns - 1 = omega (arith, wide) in
    let whole : ℕ → Range → Range = λ _. joined (Some (part.left, part.left + part.columns - 1)) in
    let unlike : ℕ → Range → Range = λ r. joined_by (columns_unlike (grid_at blank_cell old.picture.lines r) (part_cell part cells r) part.left part.columns) in
    let grid = grid_more laws part lines cells (grid_at blank_cell old.picture.lines) old.picture.rows old.picture.columns k run taken row_in wide fits same in
    let ranges = ranges_more part lines whole old.changed k _ taken (omega (arith, high))
    ((λ i. joined (Some (part.left, last i)) (range_before part lines whole old.changed k (omega (arith, high)) i))) in
    let columns : columns_unlike before (copied_cell part.left run) part.left (length run) ≡ columns_unlike was (part_cell part cells row) part.left part.columns
    = ap (columns_unlike before (copied_cell part.left run) part.left) wide
    ∙ unlike_alike before (copied_cell part.left run) was (part_cell part cells row) part.left part.columns
    (λ c from end. cells_before laws part lines cells old k c row_in (omega arith))
    (λ c from end. copied_alike run part cells k c from end same) in
    let altered = ranges_more part lines unlike old.altered k _ taken (omega (arith, altered_high))
    (λ i. joined_by (columns i) (range_before part lines unlike old.altered k (omega (arith, altered_high)) i)) in
    λ i. record old { picture = record old.picture { lines = grid i }; changed = ranges i; altered = altered i }
  where
    copied_alike : (run : List CellView) (part : ShownPart) (cells : ℕ → ℕ → CellView) (k c : ℕ) → part.left ≤ c → c < part.left + part.columns → ((j : ℕ) → j < part.columns → get_or run j blank_cell ≡ cells (part.row + k) (part.column + j))
        → copied_cell part.left run c ≡ part_cell part cells (part.top + k) c
    copied_alike run part cells k c from end same =
        let there : part.row + k ≡ part.row + (part.top + k - part.top) = omega arith in
        same (c - part.left) (omega arith) ∙ ap (λ n. cells n (part.column + (c - part.left))) there

-- a line that is not copied leaves all
pub line_left : (part : ShownPart) (lines : ℕ → Bool) (cells : ℕ → ℕ → CellView) (old : VirtualView) (k : ℕ) → lines (part.row + k) ≡ false
    → part_copied (rows_of_part part k) lines cells old ≡ part_copied (rows_of_part part (k + 1)) lines cells old
unfolding part_copied
line_left part lines cells old k left =
    let same : (r : ℕ) → is_copied (rows_of_part part k) lines r ≡ is_copied (rows_of_part part (k + 1)) lines r =
    λ r. elim (same_or_not r (part.top + k)) [
      | inl e ↦ sym (row_left_out part.top k r (lines (part.row + (r - part.top))) e (line_at part lines k r e ∙ left))
      | inr n ↦ sym (row_other part.top k r (lines (part.row + (r - part.top))) n)
    ] in
    λ i. record old {
      picture = record old.picture {
        lines = grid_of old.picture.rows old.picture.columns (λ r c.
            cond (same r i && leb part.left c && ltb c (part.left + part.columns)) (cells (part.row + (r - part.top)) (part.column + (c - part.left))) (grid_at blank_cell old.picture.lines r c));
      };
      changed = ranges_with (λ r. same r i) (λ _. joined (Some (part.left, part.left + part.columns - 1))) old.changed;
      altered = ranges_with (λ r. same r i) (λ r. joined_by (columns_unlike (grid_at blank_cell old.picture.lines r) (part_cell part cells r) part.left part.columns)) old.altered;
    }

-- nothing is copied where no row is
pub copied_nowhere : GridLaws CellView → (part : ShownPart) (lines : ℕ → Bool) (cells : ℕ → ℕ → CellView) (old : VirtualView) → IsGrid old.picture.rows old.picture.columns old.picture.lines
    → ((r : ℕ) → is_copied part lines r ≡ false) → old ≡ part_copied part lines cells old
unfolding part_copied
copied_nowhere laws part lines cells old grid none =
    let lines_are = laws.places blank_cell old.picture.rows old.picture.columns old.picture.lines grid
    ∙ grid_same old.picture.rows old.picture.columns _ _ (λ r c h b.
    sym (ap (λ t. cond (t && leb part.left c && ltb c (part.left + part.columns)) (cells (part.row + (r - part.top)) (part.column + (c - part.left))) (grid_at blank_cell old.picture.lines r c)) (none r))) in
    let ranges = none_put (is_copied part lines) (λ _. joined (Some (part.left, part.left + part.columns - 1))) old.changed none in
    let altered = none_put (is_copied part lines) (λ r. joined_by (columns_unlike (grid_at blank_cell old.picture.lines r) (part_cell part cells r) part.left part.columns)) old.altered none in
    λ i. record old { picture = record old.picture { lines = lines_are i }; changed = ranges i; altered = altered i }

-- no row is copied where no line is
pub none_to_copy : GridLaws CellView → (part : ShownPart) (lines : ℕ → Bool) (cells : ℕ → ℕ → CellView) (old : VirtualView) → IsGrid old.picture.rows old.picture.columns old.picture.lines
    → ((line : ℕ) → lines line ≡ false) → old ≡ part_copied part lines cells old
none_to_copy laws part lines cells old grid none =
    copied_nowhere laws part lines cells old grid (λ r. left (leb part.top r) (ltb r (part.top + part.rows)) (lines (part.row + (r - part.top))) (none (part.row + (r - part.top))))
  where
    left : (a b t : Bool) → t ≡ false → (a && b && t) ≡ false
    left true true t e = e
    left true false t e = refl
    left false b t e = refl

-- nothing is copied yet
pub none_copied : GridLaws CellView → (part : ShownPart) (lines : ℕ → Bool) (cells : ℕ → ℕ → CellView) (old : VirtualView) → IsGrid old.picture.rows old.picture.columns old.picture.lines
    → old ≡ part_copied (rows_of_part part 0) lines cells old
unfolding part_copied
none_copied laws part lines cells old grid =
    let none : (r : ℕ) → is_copied (rows_of_part part 0) lines r ≡ false = λ r. none_row part.top r (lines (part.row + (r - part.top))) in
    let same = copied_nowhere laws (rows_of_part part 0) lines cells old grid none in
    same

-- cells that agree in the part are copied alike
pub cells_same : (part : ShownPart) (lines : ℕ → Bool) (f g : ℕ → ℕ → CellView) (old : VirtualView)
    → ((r c : ℕ) → r < part.row + part.rows → c < part.column + part.columns → f r c ≡ g r c) → part_copied part lines f old ≡ part_copied part lines g old
unfolding part_copied
cells_same part lines f g old same =
    let grid = grid_same old.picture.rows old.picture.columns _ _ (λ r c h b.
    taken_alike part.top part.left part.rows part.columns r c (lines (part.row + (r - part.top))) (f (part.row + (r - part.top)) (part.column + (c - part.left))) (g (part.row + (r - part.top)) (part.column + (c - part.left)))
    (grid_at blank_cell old.picture.lines r c) (λ in_rows in_columns above left. same (part.row + (r - part.top)) (part.column + (c - part.left)) (omega arith) (omega arith))) in
    let altered = made_alike (is_copied part lines) (λ r. joined_by (columns_unlike (grid_at blank_cell old.picture.lines r) (part_cell part f r) part.left part.columns))
    (λ r. joined_by (columns_unlike (grid_at blank_cell old.picture.lines r) (part_cell part g r) part.left part.columns)) old.altered (λ r range h copied.
    ap (λ list. joined_by list range) (unlike_alike _ _ _ _ part.left part.columns (λ c from end. refl) (λ c from end.
    same (part.row + (r - part.top)) (part.column + (c - part.left)) (in_part part.top part.rows r part.row (lines (part.row + (r - part.top))) copied) (omega arith)))) in
    λ i. record old { picture = record old.picture { lines = grid i }; changed = ranges_with (is_copied part lines) (λ _. joined (Some (part.left, part.left + part.columns - 1))) old.changed; altered = altered i }
  where
    taken_alike : {X : Type 0} (top left rows columns r c : ℕ) (t : Bool) (v w x : X) → (r < top + rows → c < left + columns → top ≤ r → left ≤ c → v ≡ w)
        → cond ((leb top r && ltb r (top + rows) && t) && leb left c && ltb c (left + columns)) v x ≡ cond ((leb top r && ltb r (top + rows) && t) && leb left c && ltb c (left + columns)) w x
    taken_alike top left rows columns r c t v w x h = grind (arith, nat_tests)

    in_part : (top rows r row : ℕ) (t : Bool) → (leb top r && ltb r (top + rows) && t) ≡ true → row + (r - top) < row + rows
    in_part top rows r row t e = grind (arith, nat_tests)
