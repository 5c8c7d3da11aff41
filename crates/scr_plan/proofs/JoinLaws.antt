-- What is painted of a row by its looks is what is painted of it by what is remembered.
use Rattle.std.proofs.Common.{◌≡◌, ℕ, ◌+◌, ◌-◌, ◌<◌, ◌≤◌, not, Bool, true, false, refl, sym, ◌∙◌, ap, append_assoc, arith, get_or, List, [], ◌∷◌, ◌++◌, map, filter, Option, Some, None, replicate, zero, suc, if◌then◌else◌}
use Rattle.std.specs.List.{flat_map, range_with_len}
use Rattle.std.proofs.Math.ListN.{get_or-map}
use Rattle.std.proofs.lemmas.Bool.Decides.{nat_tests}
use Rattle.std.proofs.lemmas.List.{append-nil}
use Rattle.std.proofs.lemmas.List.Concat.{flat_map-append}
use Rattle.std.proofs.lemmas.List.Elements.{filter-append}
use Rattle.std.proofs.lemmas.List.FromFn.{length-map-range_with_len}
use Rattle.scr_cells.specs.CellViews.{CellView, blank_cell}
use Rattle.scr_cells.specs.Grids.{grid_row}
use Rattle.scr_cells.specs.LookViews.{LookView, blank}
use Rattle.scr_cells.specs.PenViews.{PenView}
use Rattle.scr_cells.specs.PictureViews.{PictureView}
use Rattle.scr_term.specs.declared.operations.operation.Op.{Op}
use Rattle.scr_term.specs.Operations.Profiles.{ProfileView}
use Rattle.scr_plan.specs.declared.painting.Painter.{Painter}
use Rattle.scr_plan.specs.Code.Joinings.{ShowsRow}
use Rattle.scr_cells.specs.Showing.{shown_in}
use Rattle.scr_plan.specs.Code.Painters.{is_that_pen, painter_look, painter_of, painter_sees, painter_writes, part_places, pen_before, row_differs, row_paints}
use Rattle.scr_memory.specs.Memories.{MemoryView, is_known_row}
use Rattle.scr_plan.specs.Repaints.{brief_place, cleared, differs, joins_left, look_eq, look_in}
use Rattle.scr_plan.specs.Scratch.{look_at}
use Rattle.scr_plan.proofs.PartLaws.{none_in_part, part_joined}
use Rattle.scr_plan.proofs.PartLaws.{read_any}

-- ---- by looks and by what is remembered

pub differs_same : (profile : ProfileView) (picture : PictureView) (memory : MemoryView) (row : ℕ) (before : Option (List LookView)) → ShowsRow memory row before
    → (c : ℕ) → row_differs (painter_of profile) picture before (row, c) ≡ differs profile picture memory (row, c)
differs_same profile picture memory row before shows c = grind arith

-- a place joins its left neighbour, by the pen of that if it is painted
pub joins_same : (profile : ProfileView) (picture : PictureView) (memory : MemoryView) (row : ℕ) (before : Option (List LookView)) → ShowsRow memory row before
    → (c : ℕ) → is_that_pen (pen_before (painter_of profile) picture before row c) (look_at profile picture (row, c)).pen ≡ joins_left profile picture memory row c
joins_same profile picture memory row before shows zero = refl
joins_same profile picture memory row before shows (suc c) = grind arith

paints_same : (profile : ProfileView) (picture : PictureView) (memory : MemoryView) (row : ℕ) (before : Option (List LookView)) → ShowsRow memory row before
    → (c : ℕ) → row_paints (painter_of profile) picture before (row, c) ≡ brief_place profile picture memory (row, c)
paints_same profile picture memory row before shows c = grind (arith, joins_same)

-- the same places of a row pass, and each adds the same
part_same : (f g : ℕ × ℕ → List Op) (d e : ℕ × ℕ → Bool) (row : ℕ) → ((c : ℕ) → f (row, c) ≡ g (row, c)) → ((c : ℕ) → d (row, c) ≡ e (row, c)) → (a n : ℕ)
    → flat_map f (filter d (part_places a n row)) ≡ flat_map g (filter e (part_places a n row))
part_same f g d e row adds passes a zero = refl
part_same f g d e row adds passes a (suc n) = grind (arith, part_same f g d e row adds passes (a + 1) n)

pub row_is_brief : (profile : ProfileView) (picture : PictureView) (memory : MemoryView) (row : ℕ) (before : Option (List LookView)) (painter : Painter) → painter ≡ painter_of profile → ShowsRow memory row before
    → (a n : ℕ) → flat_map (row_paints painter picture before) (filter (row_differs painter picture before) (part_places a n row))
    ≡ flat_map (brief_place profile picture memory) (filter (differs profile picture memory) (part_places a n row))
row_is_brief profile picture memory row before painter who shows a n = grind (arith, part_same, paints_same, differs_same)

-- ---- a screen that was cleared

-- a row that is remembered
pub known_row : (memory : MemoryView) (row : ℕ) (looks : List LookView) → is_known_row memory row ≡ true → looks ≡ grid_row memory.state.grid row → ShowsRow memory row (Some looks)
known_row memory row looks known are = record { known = known; looks = λ c. sym (ap (λ line. get_or line c blank) are) }

each_true : (n r : ℕ) → r < n → get_or (replicate n true) r false ≡ true
each_true zero r below = absurd (omega (arith, below))
each_true (suc n) zero below = refl
each_true (suc n) (suc r) below = each_true n r (omega (arith, below))

-- a row of blanks has a blank in every column
pub blank_row : (picture : PictureView) (row c : ℕ) → row < picture.rows → look_in (cleared picture) (row, c) ≡ blank
blank_row picture row c high =
    let line : ℕ → List LookView = λ r. map (λ c. blank) (range_with_len 0 picture.columns) in
    ap (λ looks. get_or looks c blank)
    (read_any (map line (range_with_len 0 picture.rows)) row [] (line 0) (omega (arith, high, length-map-range_with_len line 0 picture.rows)) ∙ get_or-map line (range_with_len 0 picture.rows) row 0)
    ∙ get_or-map (λ c. blank) (range_with_len 0 picture.columns) c 0

pub cleared_row : (picture : PictureView) (row : ℕ) → row < picture.rows → ShowsRow (cleared picture) row None
cleared_row picture row high = record { known = each_true picture.rows row high; looks = λ c. blank_row picture row c high }

-- ---- one place, or places that are passed

-- no place is painted right after places that do not differ
pub passed : (painter : Painter) (picture : PictureView) (before : Option (List LookView)) (row column next : ℕ) → column < next
    → ((c : ℕ) → column ≤ c → c < next → row_differs painter picture before (row, c) ≡ false)
    → (filter (row_differs painter picture before) (part_places column (next - column) row) ≡ []) × (pen_before painter picture before row next ≡ None)
passed painter picture before row column next more same = grind (arith, none_in_part)

-- the pen of a place that is painted
pub painted : (painter : Painter) (picture : PictureView) (before : Option (List LookView)) (row column : ℕ) → row_differs painter picture before (row, column) ≡ true
    → pen_before painter picture before row (column + 1) ≡ Some (painter_look painter picture (row, column)).pen
painted painter picture before row column differs =
    let next : column + 1 ≡ suc column = omega arith in
    ap (pen_before painter picture before row) next ∙ ap (λ b. if b then Some (painter_look painter picture (row, column)).pen else None) differs

-- ---- what is seen of a row's cells

-- a place that shows what is seen of its cell does not differ
pub shown_same : (painter : Painter) (picture : PictureView) (row : ℕ) (before : Option (List LookView)) (c : ℕ) (cells : List CellView) → cells ≡ grid_row picture.lines row
    → shown_in before c ≡ painter_sees painter picture.pairs (get_or cells c blank_cell) → row_differs painter picture before (row, c) ≡ false
shown_same painter picture row before c cells are same = grind arith

-- whether a place differs, by the byte and the pen of its cell
pub differs_by : (painter : Painter) (picture : PictureView) (row : ℕ) (before : Option (List LookView)) (c : ℕ) (cells : List CellView) (byte : ℕ) (pen : PenView) → cells ≡ grid_row picture.lines row
    → byte ≡ (painter_sees painter picture.pairs (get_or cells c blank_cell)).character → pen ≡ (painter_sees painter picture.pairs (get_or cells c blank_cell)).pen
    → record { character = byte; pen = pen } ≡ painter_look painter picture (row, c)
differs_by painter picture row before c cells byte pen are is_byte is_pen = grind arith

pub place_shown : (painter : Painter) (picture : PictureView) (row : ℕ) (before : Option (List LookView)) (c : ℕ) (cells : List CellView) (byte : ℕ) (pen : PenView) → cells ≡ grid_row picture.lines row
    → byte ≡ (painter_sees painter picture.pairs (get_or cells c blank_cell)).character → pen ≡ (painter_sees painter picture.pairs (get_or cells c blank_cell)).pen
    → {shown : Bool} → look_eq (shown_in before c) (record { character = byte; pen = pen }) ≡ shown → row_differs painter picture before (row, c) ≡ not shown
place_shown painter picture row before c cells byte pen are is_byte is_pen same = grind arith

-- one place more that does not differ
pub one_more : (painter : Painter) (picture : PictureView) (row : ℕ) (before : Option (List LookView)) (from column : ℕ)
    → ((c : ℕ) → from ≤ c → c < column → row_differs painter picture before (row, c) ≡ false) → row_differs painter picture before (row, column) ≡ false
    → (c : ℕ) → from ≤ c → c < column + 1 → row_differs painter picture before (row, c) ≡ false
one_more painter picture row before from column same last c low high = grind (arith, nat_tests)

-- a place that does not differ, and those after it
pub one_and_more : (painter : Painter) (picture : PictureView) (before : Option (List LookView)) (row column next : ℕ) → row_differs painter picture before (row, column) ≡ false
    → ((c : ℕ) → column + 1 ≤ c → c < next → row_differs painter picture before (row, c) ≡ false)
    → (c : ℕ) → column ≤ c → c < next → row_differs painter picture before (row, c) ≡ false
one_and_more painter picture before row column next first rest c low high = grind (arith, nat_tests)

-- ---- what a step of the loop adds

-- a place that is painted adds what leads to it and its character
pub painted_adds : (painter : Painter) (picture : PictureView) (before : Option (List LookView)) (row column : ℕ) (ops new : List Op) (left : Option PenView) (look : LookView)
    → row_differs painter picture before (row, column) ≡ true → left ≡ pen_before painter picture before row column → look ≡ painter_look painter picture (row, column)
    → new ≡ ops ++ painter_writes painter left (row, column) look
    → new ≡ ops ++ flat_map (row_paints painter picture before) (filter (row_differs painter picture before) (part_places column (column + 1 - column) row))
painted_adds painter picture before row column ops new left look differs is_left is_look made =
    let one : column + 1 - column ≡ 1 = omega arith in
    let f = row_paints painter picture before in
    made ∙ (λ i. ops ++ painter_writes painter (is_left i) (row, column) (is_look i))
    ∙ rw one (sym (ap (λ b. ops ++ flat_map f (if b then (row, column) ∷ [] else [])) differs ∙ ap (λ more. ops ++ more) (append-nil (f (row, column)))))

-- what is painted of two parts, one after another
pub parts_painted : (painter : Painter) (picture : PictureView) (before : Option (List LookView)) (row from column next : ℕ) (old ops new : List Op) → from ≤ column → column < next
    → ops ≡ old ++ flat_map (row_paints painter picture before) (filter (row_differs painter picture before) (part_places from (column - from) row))
    → new ≡ ops ++ flat_map (row_paints painter picture before) (filter (row_differs painter picture before) (part_places column (next - column) row))
    → new ≡ old ++ flat_map (row_paints painter picture before) (filter (row_differs painter picture before) (part_places from (next - from) row))
parts_painted painter picture before row from column next old ops new low more made added =
    let here : from + (column - from) ≡ column = omega arith in
    let whole : next - from ≡ column - from + (next - column) = omega arith in
    rw (added, made, append_assoc, whole, part_joined from (column - from) (next - column) row, here, filter-append, flat_map-append)
