-- Which places of a grid a change leaves as they are.
use Rattle.std.proofs.Common.{◌≡◌, ◌∙◌, ℕ, ◌+◌, ◌-◌, ◌<◌, ◌≤◌, ◌&&◌, Bool, true, false, List, [], length, drop, length-take, length-drop, slice_index_or, slice_range, min, nat_eq, nat_lt, ◌⊎◌, inl, inr, All, if◌then◌else◌, leb, ltb, refl, ap, sym, subst, arith, Some}
use Rattle.std.proofs.lemmas.List.{get_or-drop, get_or-take}
use Rattle.std.proofs.lemmas.List.Elements.{All-drop, All-get_or, All-take}
use Rattle.std.proofs.lemmas.Bool.Decides.{nat_tests}
use Rattle.scr_cells.specs.Grids.{GridLaws, IsGrid, grid_at, grid_row, grid_with_run, is_in_run, places_left, places_right, rows_down, rows_up}
use Rattle.scr_cells.specs.LookViews.{IsLook, LookView, blank}
use Rattle.scr_term.specs.declared.operations.operation.Op.{Op}
use Rattle.scr_term.specs.declared.operations.operation.Spot.{Spot}
use Rattle.scr_term.specs.declared.operations.operation.Spot.TheVariants.{At, Margin}
use Rattle.scr_term.specs.Operations.States.{IsSpot, TerminalState, is_from_place}
use Rattle.scr_terminal.proofs.ErasedLaws.{same_places}
use Rattle.scr_terminal.proofs.WritingLaws.{made_fits}
use Rattle.scr_terminal.specs.Characters.{LeavesOthers}
use Rattle.scr_terminal.specs.Code.Writing.{looks_ahead, looks_written}
use Rattle.scr_terminal.specs.Terminals.{TerminalView, IsTerminal, gone_on}
use Rattle.scr_terminal.specs.Marks.{AreOfSize, DifferInMarks, HasAdded, HasMarked, MarksView, is_marked, marked_in}
use Rattle.scr_terminal.specs.Code.Changes.{changed}
use Rattle.scr_terminal.specs.Code.Marking.{IsCopied, is_changed_by, is_in_rows}
use Rattle.scr_terminal.specs.declared.changes.Change.{Change}
use Rattle.scr_terminal.specs.declared.changes.Change.TheVariants.{Moved, ErasedRun, ErasedFrom, ErasedAll, Cleared, LinesInserted, LinesDeleted, CharactersInserted, CharactersDeleted, Rendered}

-- where a test fails, the other formula counts
other : {A : Type 0} (b : Bool) (x y : A) → b ≡ false → (if b then x else y) ≡ y
other b x y e = ap (λ b. if b then x else y) e

in_rows : (rows columns first r c : ℕ) → r < rows → c < columns → is_in_rows columns first rows r c ≡ false → leb first r ≡ false
in_rows rows columns first r c high wide out = grind (arith, nat_tests, out)

true_not_false : {P : Type 0} → true ≡ false → P
true_not_false e = (cc)

never : (rows columns r c : ℕ) → r < rows → c < columns → is_in_rows columns 0 rows r c ≡ false → true ≡ false
never rows columns r c high wide out = grind (arith, nat_tests, out)

-- a place that a change does not change
pub changed_elsewhere : GridLaws LookView → (rows columns : ℕ) (state : TerminalState) (change : Change) (r c : ℕ) → r < rows → c < columns → is_changed_by rows columns change r c ≡ false
    → grid_at blank (changed rows columns state change).grid r c ≡ grid_at blank state.grid r c
changed_elsewhere laws rows columns state (Moved spot) r c high wide out = refl
changed_elsewhere laws rows columns state (Rendered pen) r c high wide out = refl
changed_elsewhere laws rows columns state (ErasedRun row from end) r c high wide out =
    laws.formula blank rows columns (λ r c. if is_in_run row from end r c then blank else grid_at blank state.grid r c) r c high wide ∙ other (is_in_run row from end r c) blank (grid_at blank state.grid r c) out
changed_elsewhere laws rows columns state (ErasedFrom row column) r c high wide out =
    let above : is_from_place row column r c ≡ false = let before = in_rows rows columns row r c high wide out in grind (arith, nat_tests, before) in
    laws.formula blank rows columns (λ r c. if is_from_place row column r c then blank else grid_at blank state.grid r c) r c high wide ∙ other (is_from_place row column r c) blank (grid_at blank state.grid r c) above
changed_elsewhere laws rows columns state ErasedAll r c high wide out = true_not_false (never rows columns r c high wide out)
changed_elsewhere laws rows columns state Cleared r c high wide out = true_not_false (never rows columns r c high wide out)
changed_elsewhere laws rows columns state (LinesInserted row n) r c high wide out =
    laws.formula blank rows columns (rows_down row rows n blank (grid_at blank state.grid)) r c high wide
    ∙ other (leb row r && ltb r rows) _ (grid_at blank state.grid r c) (ap (λ b. b && ltb r rows) (in_rows rows columns row r c high wide out))
changed_elsewhere laws rows columns state (LinesDeleted row n) r c high wide out =
    laws.formula blank rows columns (rows_up row rows n blank (grid_at blank state.grid)) r c high wide
    ∙ other (leb row r && ltb r rows) _ (grid_at blank state.grid r c) (ap (λ b. b && ltb r rows) (in_rows rows columns row r c high wide out))
changed_elsewhere laws rows columns state (CharactersInserted row column n) r c high wide out =
    laws.formula blank rows columns (places_right row column columns n blank (grid_at blank state.grid)) r c high wide ∙ other (is_in_run row column columns r c) _ (grid_at blank state.grid r c) out
changed_elsewhere laws rows columns state (CharactersDeleted row column n) r c high wide out =
    laws.formula blank rows columns (places_left row column columns n blank (grid_at blank state.grid)) r c high wide ∙ other (is_in_run row column columns r c) _ (grid_at blank state.grid r c) out

-- a place outside a run that is written
run_elsewhere : GridLaws LookView → (rows columns : ℕ) (lines : List (List LookView)) (row from : ℕ) (run : List LookView) → IsGrid rows columns lines → row < rows → from + length run ≤ columns
    → (r c : ℕ) → r < rows → c < columns → is_in_run row from (from + length run) r c ≡ false → grid_at blank (grid_with_run lines row from run) r c ≡ grid_at blank lines r c
run_elsewhere laws rows columns lines row from run whole there fits r c high wide out =
    ap (λ lines. grid_at blank lines r c) (laws.run blank rows columns lines row from run whole there fits)
    ∙ laws.formula blank rows columns (λ r c. if is_in_run row from (from + length run) r c then slice_index_or run (c - from) blank else grid_at blank lines r c) r c high wide
    ∙ other (is_in_run row from (from + length run) r c) _ (grid_at blank lines r c) out

-- a place of columns that are copied from another grid
copied_place : GridLaws LookView → (rows columns : ℕ) (lines others : List (List LookView)) (row from end : ℕ) → IsGrid rows columns lines → row < rows → from ≤ end → end ≤ columns
    → length (grid_row others row) ≡ columns → (r c : ℕ) → r < rows → c < columns
    → grid_at blank (grid_with_run lines row from (slice_range (grid_row others row) from end)) r c ≡ (if is_in_run row from end r c then grid_at blank others r c else grid_at blank lines r c)
copied_place laws rows columns lines others row from end whole there order fits long r c high wide =
    let part = slice_range (grid_row others row) from end in
    let count : length part ≡ end - from = omega (arith, length-take (end - from) (drop from (grid_row others row)), length-drop from (grid_row others row), order, fits, long) in
    let ends : from + length part ≡ end = omega (arith, count, order) in
    ap (λ lines. grid_at blank lines r c) (laws.run blank rows columns lines row from part whole there (omega (arith, ends, fits)))
    ∙ laws.formula blank rows columns (λ r c. if is_in_run row from (from + length part) r c then slice_index_or part (c - from) blank else grid_at blank lines r c) r c high wide
    ∙ ap (λ n. if is_in_run row from n r c then slice_index_or part (c - from) blank else grid_at blank lines r c) ends
    ∙ inside (is_in_run row from end r c) refl
  where
    inside : (b : Bool) → is_in_run row from end r c ≡ b
        → (if is_in_run row from end r c then slice_index_or (slice_range (grid_row others row) from end) (c - from) blank else grid_at blank lines r c) ≡ (if is_in_run row from end r c then grid_at blank others r c else grid_at blank lines r c)
    inside false e = ap (λ b. if b then slice_index_or (slice_range (grid_row others row) from end) (c - from) blank else grid_at blank lines r c) e ∙ sym (ap (λ b. if b then grid_at blank others r c else grid_at blank lines r c) e)
    inside true e =
        let same : r ≡ row = grind (arith, nat_tests, e) in
        let after : from ≤ c = grind (arith, nat_tests, e) in
        let before : c < end = grind (arith, nat_tests, e) in
        let back : from + (c - from) ≡ c = omega (arith, after) in
        ap (λ b. if b then slice_index_or (slice_range (grid_row others row) from end) (c - from) blank else grid_at blank lines r c) e
        ∙ get_or-take (end - from) (drop from (grid_row others row)) (c - from) blank (omega (arith, after, before))
        ∙ get_or-drop from (grid_row others row) (c - from) blank
        ∙ ap (λ c. grid_at blank others row c) back ∙ ap (λ r. grid_at blank others r c) (sym same)
        ∙ sym (ap (λ b. if b then grid_at blank others r c else grid_at blank lines r c) e)

-- all looks of a part are looks
pub part_looks : (lines : List (List LookView)) (row from end : ℕ) → row < length lines → All (All IsLook) lines → All IsLook (slice_range (grid_row lines row) from end)
part_looks lines row from end there each = All-take IsLook (end - from) (drop from (grid_row lines row)) (All-drop IsLook from (grid_row lines row) (All-get_or (All IsLook) lines row [] there each))

-- a terminal with columns of a row copied from another
pub is_copied : GridLaws LookView → (old other new : TerminalView) (row from end : ℕ) → IsTerminal old → IsTerminal other → other.rows ≡ old.rows → other.columns ≡ old.columns → row < old.rows → from ≤ end → end ≤ old.columns
    → new ≡ record old { state = record old.state { grid = grid_with_run old.state.grid row from (slice_range (grid_row other.state.grid row) from end) } } → IsCopied row from end old other new
is_copied laws old other new row from end is others rows columns there order fits made = record {
  rows = ap (λ (t : TerminalView). t.rows) made;
  columns = ap (λ (t : TerminalView). t.columns) made;
  spot = ap (λ (t : TerminalView). t.state.spot) made;
  pen = ap (λ (t : TerminalView). t.state.pen) made;
  places = λ r c high wide. ap (λ (t : TerminalView). grid_at blank t.state.grid r c) made
      ∙ copied_place laws old.rows old.columns old.state.grid other.state.grid row from end is.state.whole there order fits (others.state.whole.wide row (omega (arith, there, rows)) ∙ columns) r c high wide;
}

-- columns up to an end, whichever comes first
pub copied_columns : (row from end : ℕ) (old other new : TerminalView) → IsCopied row (min from end) end old other new → IsCopied row from end old other new
copied_columns row from end old other new is = record {
  rows = is.rows;
  columns = is.columns;
  spot = is.spot;
  pen = is.pen;
  places = λ r c high wide. is.places r c high wide ∙ ap (λ b. if b then grid_at blank other.state.grid r c else grid_at blank old.state.grid r c) (same r c);
}
  where
    same : (r c : ℕ) → is_in_run row (min from end) end r c ≡ is_in_run row from end r c
    same r c = grind (arith, nat_tests)

-- ---- copying all that is marked

-- two grids of the same size that show the same in each place
same_grids : GridLaws LookView → (rows columns : ℕ) (one two : List (List LookView)) → IsGrid rows columns one → IsGrid rows columns two
    → ((r c : ℕ) → r < rows → c < columns → grid_at blank one r c ≡ grid_at blank two r c) → one ≡ two
same_grids laws rows columns one two is is_two same =
    laws.places blank rows columns one is ∙ same_places rows columns (grid_at blank one) (grid_at blank two) same ∙ sym (laws.places blank rows columns two is_two)

-- the rows before one show what the other does, and so does each place without a mark
abbrev pub AreCopied : (marks : MarksView) (old other now : TerminalView) → ℕ → Type 0
AreCopied marks old other now row =
    (now.rows ≡ old.rows) × (now.columns ≡ old.columns) × (now.state.spot ≡ old.state.spot) × (now.state.pen ≡ old.state.pen)
    × ((r c : ℕ) → r < old.rows → c < old.columns → (r < row) ⊎ (is_marked marks r c ≡ false) → grid_at blank now.state.grid r c ≡ grid_at blank other.state.grid r c)

pub first_copied : (marks : MarksView) (old other : TerminalView) (first : ℕ) → AreOfSize old.rows old.columns marks → DifferInMarks marks old.state.grid other.state.grid → ((r c : ℕ) → r < first → is_marked marks r c ≡ false) → AreCopied marks old other old first
first_copied marks old other first size same none = (refl, refl, refl, refl, by)
  where
    by : (r c : ℕ) → r < old.rows → c < old.columns → (r < first) ⊎ (is_marked marks r c ≡ false) → grid_at blank old.state.grid r c ≡ grid_at blank other.state.grid r c
    by r c high wide (inl before) = same r c (omega (arith, high, size.rows)) (omega (arith, wide, size.columns)) (none r c before)
    by r c high wide (inr out) = same r c (omega (arith, high, size.rows)) (omega (arith, wide, size.columns)) out

pub next_copied : (marks : MarksView) (old other now new : TerminalView) (row : ℕ) → AreCopied marks old other now row → IsCopied row (marked_in marks row).0 (marked_in marks row).1 now other new → AreCopied marks old other new (row + 1)
next_copied marks old other now new row (rows, columns, spot, pen, before) is =
    (is.rows ∙ rows, is.columns ∙ columns, is.spot ∙ spot, is.pen ∙ pen, by)
  where
    chosen : (b : Bool) (r c : ℕ) → is_in_run row (marked_in marks row).0 (marked_in marks row).1 r c ≡ b → r < old.rows → c < old.columns → (b ≡ true) ⊎ (grid_at blank now.state.grid r c ≡ grid_at blank other.state.grid r c)
        → grid_at blank new.state.grid r c ≡ grid_at blank other.state.grid r c
    chosen true r c e high wide done = is.places r c (omega (arith, high, rows)) (omega (arith, wide, columns)) ∙ ap (λ b. if b then grid_at blank other.state.grid r c else grid_at blank now.state.grid r c) e
    chosen false r c e high wide (inr done) = is.places r c (omega (arith, high, rows)) (omega (arith, wide, columns)) ∙ ap (λ b. if b then grid_at blank other.state.grid r c else grid_at blank now.state.grid r c) e ∙ done
    chosen false r c e high wide (inl never) = true_not_false (sym never)

    here : (r c : ℕ) → is_marked marks r c ≡ true → r ≡ row → is_in_run row (marked_in marks row).0 (marked_in marks row).1 r c ≡ true
    here r c marked at = let there : is_marked marks row c ≡ true = ap (λ r. is_marked marks r c) (sym at) ∙ marked in grind (arith, nat_tests, at, there)

    by : (r c : ℕ) → r < old.rows → c < old.columns → (r < row + 1) ⊎ (is_marked marks r c ≡ false) → grid_at blank new.state.grid r c ≡ grid_at blank other.state.grid r c
    by r c high wide (inr out) = chosen (is_in_run row (marked_in marks row).0 (marked_in marks row).1 r c) r c refl high wide (inr (before r c high wide (inr out)))
    by r c high wide (inl up) = which (is_marked marks r c) refl (nat_eq r row) refl
      where
        which : (m : Bool) → is_marked marks r c ≡ m → (e : Bool) → nat_eq r row ≡ e → grid_at blank new.state.grid r c ≡ grid_at blank other.state.grid r c
        which false out e is_e = chosen (is_in_run row (marked_in marks row).0 (marked_in marks row).1 r c) r c refl high wide (inr (before r c high wide (inr out)))
        which true marked true is_e = chosen true r c (here r c marked (grind (arith, nat_tests, is_e))) high wide (inl refl)
        which true marked false is_e =
            let above : r < row = grind (arith, nat_tests, is_e, up) in
            chosen (is_in_run row (marked_in marks row).0 (marked_in marks row).1 r c) r c refl high wide (inr (before r c high wide (inl above)))

pub all_copied : GridLaws LookView → (marks : MarksView) (old other new : TerminalView) (row end : ℕ) → IsTerminal new → IsTerminal other → other.rows ≡ old.rows → other.columns ≡ old.columns
    → AreCopied marks old other new row → end ≤ row → ((r c : ℕ) → end ≤ r → is_marked marks r c ≡ false) → new ≡ record old { state = record old.state { grid = other.state.grid } }
all_copied laws marks old other new row end is others high_same wide_same (rows, columns, spot, pen, done) past none =
    let grid : new.state.grid ≡ other.state.grid =
    same_grids laws new.rows new.columns new.state.grid other.state.grid is.state.whole
    (subst (λ r. IsGrid r new.columns other.state.grid) (high_same ∙ sym rows) (subst (λ c. IsGrid other.rows c other.state.grid) (wide_same ∙ sym columns) others.state.whole))
    (λ r c high wide. by r c (omega (arith, high, rows)) (omega (arith, wide, columns)) (nat_lt r row) refl) in
    λ i. record { rows = rows i; columns = columns i; state = record { grid = grid i; spot = spot i; pen = pen i } }
  where
    by : (r c : ℕ) → r < old.rows → c < old.columns → (b : Bool) → nat_lt r row ≡ b → grid_at blank new.state.grid r c ≡ grid_at blank other.state.grid r c
    by r c high wide true e = done r c high wide (inl (grind (arith, nat_tests, e)))
    by r c high wide false e = let after : end ≤ r = grind (arith, nat_tests, e, past) in done r c high wide (inr (none r c after))

-- characters that are written ahead leave the other places as they are
pub others_stay : GridLaws LookView → (old new : TerminalView) → IsTerminal old → (ops : List Op) (n : ℕ) → n ≡ length (looks_ahead old.columns old.state ops)
    → new ≡ record old { state = looks_written old.columns old.state (looks_ahead old.columns old.state ops) old.state.spot } → LeavesOthers old.rows old.columns old.state.spot n old.state.grid new.state.grid
others_stay laws old new is ops n count made = by old.state.spot refl
  where
    looks : List LookView
    looks = looks_ahead old.columns old.state ops

    lines : (spot : Spot) → old.state.spot ≡ spot → new.state.grid ≡ (looks_written old.columns old.state looks spot).grid
    lines spot at = ap (λ (d : TerminalView). d.state.grid) made ∙ ap (λ spot. (looks_written old.columns old.state looks spot).grid) at

    by : (spot : Spot) → old.state.spot ≡ spot → LeavesOthers old.rows old.columns spot n old.state.grid new.state.grid
    by (At row column) at =
        let here : IsSpot old.rows old.columns (At row column) = subst (IsSpot old.rows old.columns) at is.state.spot in
        let few : length looks ≤ old.columns - column = subst (λ spot. length (looks_ahead old.columns (record old.state { spot = spot }) ops) ≤ old.columns - column) (sym at) (made_fits old.state.pen (old.columns - column) ops) in
        let fits : column + length looks ≤ old.columns = omega (arith, few, here.1) in (
          omega (arith, fits, count),
          λ r c high wide out.
              ap (λ lines. grid_at blank lines r c) (lines (At row column) at)
              ∙ run_elsewhere laws old.rows old.columns old.state.grid row column looks is.state.whole here.0 fits r c high wide (ap (λ n. is_in_run row column (column + n) r c) (sym count) ∙ out),
        )
    by (Margin row) at = count ∙ ap (λ spot. length (looks_ahead old.columns (record old.state { spot = spot }) ops)) at

-- a change whose places are marked
pub change_is_marked : GridLaws LookView → (old new : TerminalView) (before after : MarksView) (change : Change) → AreOfSize old.rows old.columns before
    → HasAdded (is_changed_by before.rows before.columns change) before after → new ≡ gone_on old (Some (changed old.rows old.columns old.state change))
    → HasMarked old.state.grid new.state.grid before after
change_is_marked laws old new before after change size added made r c high wide out =
    let parts = added r c high out in (
      parts.0,
      ap (λ (d : TerminalView). grid_at blank d.state.grid r c) made
          ∙ changed_elsewhere laws old.rows old.columns old.state change r c (omega (arith, high, size.rows)) (omega (arith, wide, size.columns))
          (ap (λ rows. is_changed_by rows old.columns change r c) (sym size.rows) ∙ ap (λ columns. is_changed_by before.rows columns change r c) (sym size.columns) ∙ parts.1),
    )
