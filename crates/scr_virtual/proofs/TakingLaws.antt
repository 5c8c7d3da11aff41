-- Windows and pads of a desk that are taken.
use Rattle.std.proofs.Common.{◌≡◌, ℕ, Bool, true, false, ◌+◌, ◌<◌, ◌≤◌, ◌||◌, sym, ◌∙◌, ap, refl, arith, subst, drop, length, get_or, cond, leb, zero, suc, List, [], ◌∷◌, Option, None, Some, Result, Ok, Err}
use Rattle.std.specs.Prelude.{MatchOption}
use Rattle.std.specs.Result.{result_unwrap_or}
use Rattle.std.proofs.lemmas.List.{get_or-drop, get_or-take}
use Rattle.std.specs.List.{list_any}
use Rattle.std.proofs.lemmas.Bool.{or_parts}
use Rattle.std.proofs.lemmas.Bool.Decides.{nat_tests}
use Rattle.scr_cells.specs.CellViews.{CellView, blank_cell}
use Rattle.scr_cells.specs.Grids.{GridLaws, grid_row}
use Rattle.scr_windows.specs.declared.surfaces.areas.Area.{Area}
use Rattle.scr_windows.specs.Surfaces.SurfaceViews.{inside_at}
use Rattle.scr_windows.specs.declared.faults.WinFault.{WinFault}
use Rattle.scr_windows.specs.declared.faults.WinFault.TheVariants.{OutOfWindow}
use Rattle.scr_windows.specs.Calls.Reading.{about_window, at, contents, window_answer, window_touched_answer}
use Rattle.scr_windows.specs.Calls.Settings.{with_state}
use Rattle.scr_windows.specs.Calls.Touching.{take_lines_call}
use Rattle.scr_windows.specs.Changes.{index_of, marked, on_window, with_window}
use Rattle.scr_windows.specs.DeskViews.{DeskView, IsDesk, IsThere, WindowView, surface_at, window_at}
use Rattle.scr_windows.specs.Laws.{WindowsArePlaced}
use Rattle.scr_windows.specs.Lending.{LentView}
use Rattle.scr_virtual.specs.declared.parts.ShownPart.{ShownPart}
use Rattle.scr_virtual.specs.Code.Lines.{IsInside, IsShown, copied_lines, lent_at, line_copied, part_line, shown}
use Rattle.scr_virtual.specs.Taking.{on_ok, part_at, part_call, part_copied, part_taken, taken, window_part, wish_of}
use Rattle.scr_virtual.specs.VirtualViews.{IsVirtual, VirtualView}
use Rattle.scr_virtual.proofs.CopyLaws.{cells_same, line_more, rows_of_part}

-- a window that was lent: where it stands among the desk's, and what is lent of it
pub record Lends (desk : DeskView) (win : ℕ) (lent : LentView) : Type 0 where
  pub index : ℕ
  pub found : index_of desk win ≡ Ok index
  pub is : lent ≡ contents desk index

pub lends : (desk : DeskView) (win : ℕ) (lent : LentView) → Ok lent ≡ window_answer desk win → Lends desk win lent
unfolding window_answer
lends desk win lent e = let got = found (index_of desk win) (contents desk) lent e in record { index = got.0; found = got.1; is = got.2 }
  where
    found : (o : Result ℕ WinFault) (f : ℕ → LentView) (lent : LentView) → Ok lent ≡ about_window o (λ i. Ok (f i)) → (i : ℕ) × (o ≡ Ok i) × (lent ≡ f i)
    found (Err fault) f lent e = absurd (let z : ⊥ = (cc) in z)
    found (Ok i) f lent e = (i, refl, (cc))

pub not_lent : (desk : DeskView) (win : ℕ) (fault : WinFault) → Err fault ≡ window_answer desk win → index_of desk win ≡ Err fault
unfolding window_answer
not_lent desk win fault e = missing (index_of desk win) (contents desk) fault e
  where
    missing : (o : Result ℕ WinFault) (f : ℕ → LentView) (fault : WinFault) → Err fault ≡ about_window o (λ i. Ok (f i)) → o ≡ Err fault
    missing (Err other) f fault e = (cc)
    missing (Ok i) f fault e = absurd (let z : ⊥ = (cc) in z)

-- what a lent window shows is the desk's
pub lent_copied : GridLaws CellView → (desk : DeskView) (win : ℕ) (lent : LentView) (l : Lends desk win lent) (part : ShownPart) (lines : ℕ → Bool) (v : VirtualView) → part.row + part.rows ≤ lent.window.frame.area.rows → part.column + part.columns ≤ lent.window.frame.area.columns → part_copied part lines (lent_at lent) v ≡ part_copied part lines (at desk l.index) v
lent_copied laws desk win lent l part lines v rows columns =
    let area : Area = (window_at desk l.index).frame.area in
    let high = ap (λ (w : LentView). w.window.frame.area.rows) l.is in
    let wide = ap (λ (w : LentView). w.window.frame.area.columns) l.is in
    ap (λ w. part_copied part lines (lent_at w) v) l.is
    ∙ cells_same part lines (lent_at (contents desk l.index)) (at desk l.index) v (λ r c h b.
    laws.formula blank_cell area.rows area.columns (inside_at (surface_at desk (window_at desk l.index).frame.surface) area) r c (omega (arith, rows, high)) (omega (arith, columns, wide)))

-- no line is touched where none of the marks is
pub none_touched : (touched : List Bool) → list_any (λ mark. mark) touched ≡ false → (line : ℕ) → get_or touched line false ≡ false
none_touched [] none line = refl
none_touched (mark ∷ touched) none zero = (or_parts mark (list_any (λ m. m) touched) none).0
none_touched (mark ∷ touched) none (suc line) = none_touched touched (or_parts mark (list_any (λ m. m) touched) none).1 line

-- a window of which no line is touched
pub untouched : (desk : DeskView) (win : ℕ) (lent : LentView) (any : Bool) → Ok lent ≡ window_answer desk win → any ≡ result_unwrap_or (window_touched_answer desk win) true → any ≡ false
    → list_any (λ mark. mark) lent.window.touched ≡ false
unfolding window_touched_answer
untouched desk win lent any answer is none =
    let l : Lends desk win lent = lends desk win lent answer in
    ap (λ (w : LentView). list_any (λ mark. mark) w.window.touched) l.is
    ∙ sym (ap (λ o. result_unwrap_or (about_window o (λ i. Ok (list_any (λ mark. mark) (window_at desk i).touched))) true) l.found)
    ∙ sym is ∙ none

-- the part is still inside after lines of it were copied
pub still_shown : (v new : VirtualView) (lent : LentView) (part some : ShownPart) (lines : ℕ → Bool) (cells : ℕ → ℕ → CellView) → IsShown v lent part → new ≡ part_copied some lines cells v → IsShown new lent part
unfolding part_copied
still_shown v new lent part some lines cells h is =
    let P : VirtualView → Type 0 = λ w. IsShown w lent part in
    subst P (sym is) (record { some = h.some; lines = h.lines; columns_of = h.columns_of; bottom = h.bottom; right = h.right })

-- as far as the lines are copied, one more is, or is left
pub line_taken : GridLaws CellView → (old now new : VirtualView) (lent : LentView) (part : ShownPart) (all : Bool) (k : ℕ) → IsVirtual old → IsShown old lent part → now ≡ part_copied (rows_of_part part k) (copied_lines all lent) (lent_at lent) old
    → k < part.rows → copied_lines all lent (part.row + k) ≡ true → length (part_line lent part k) ≡ part.columns → new ≡ line_copied (part.top + k) part.left (part_line lent part k) now
    → new ≡ part_copied (rows_of_part part (k + 1)) (copied_lines all lent) (lent_at lent) old
line_taken laws old now new lent part all k h inside now_is row_in taken width new_is =
    new_is ∙ ap (line_copied (part.top + k) part.left (part_line lent part k)) now_is
    ∙ line_more laws part (copied_lines all lent) (lent_at lent) old k (part_line lent part k) taken (omega (arith, inside.bottom)) h.rows h.altered_rows width inside.some inside.right (λ j b.
    get_or-take part.columns (drop part.column (grid_row lent.lines (part.row + k))) j blank_cell b ∙ get_or-drop part.column (grid_row lent.lines (part.row + k)) j blank_cell)

-- a whole window is shown where it is
pub window_shown : WindowsArePlaced → (desk : DeskView) (win : ℕ) (lent : LentView) (v : VirtualView) (part : ShownPart) → IsDesk desk → desk.rows ≡ v.picture.rows → desk.columns ≡ v.picture.columns → Ok lent ≡ window_answer desk win
    → Ok part ≡ window_part lent.window → IsShown v lent part
window_shown placed desk win lent v part h high wide answer part_is =
    let l : Lends desk win lent = lends desk win lent answer in
    let there : IsThere desk l.index = placed desk win l.index h l.found in
    let area : Area = (window_at desk l.index).frame.area in
    let place = placed_part area (window_at desk l.index).frame.origin part (part_is ∙ ap (λ (w : LentView). window_part w.window) l.is) in
    let P : Option (ℕ × ℕ) → Type 0 = λ o. MatchOption o (Unit {0}) (λ p. (p.0 + area.rows ≤ desk.rows) × (p.1 + area.columns ≤ desk.columns)) in
    let on : (place.0.0 + area.rows ≤ desk.rows) × (place.0.1 + area.columns ≤ desk.columns) = subst P place.1 there.origin in
    let Q : ShownPart → Type 0 = λ p. IsShown v lent p in
    let same_rows = ap (λ (w : LentView). w.window.frame.area.rows) l.is in
    let same_columns = ap (λ (w : LentView). w.window.frame.area.columns) l.is in
    subst Q (sym place.2) (record {
      some = there.part.some_columns;
      lines = omega (arith, same_rows);
      columns_of = omega (arith, same_columns);
      bottom = omega (arith, on.0, high);
      right = omega (arith, on.1, wide);
    })
  where
    placed_part : (area : Area) (o : Option (ℕ × ℕ)) (part : ShownPart) → Ok part ≡ part_at area o → (place : ℕ × ℕ) × (o ≡ Some place) × (part ≡ record { row = 0; column = 0; rows = area.rows; columns = area.columns; top = place.0; left = place.1 })
    placed_part area None part e = absurd (let z : ⊥ = (cc) in z)
    placed_part area (Some place) part e = (place, refl, (cc))

-- a part of a pad is shown on a screen of the same size
pub pad_shown : (rows columns : ℕ) (lent : LentView) (v : VirtualView) (part : ShownPart) → rows ≡ v.picture.rows → columns ≡ v.picture.columns → IsInside rows columns lent part → IsShown v lent part
pad_shown rows columns lent v part high wide h = record { some = h.some; lines = h.lines; columns_of = h.columns_of; bottom = omega (arith, h.bottom, high); right = omega (arith, h.right, wide) }

at_index : {A : Type 0} (desk : DeskView) (o : Result ℕ WinFault) (i : ℕ) (f : ℕ → DeskView × Result A WinFault) → o ≡ Ok i → on_window desk o f ≡ f i
at_index desk o i f e = ap (λ p. on_window desk p f) e

chosen : {X : Type 0} (b : Bool) (x y : X) → b ≡ true → cond b x y ≡ x
chosen b x y e = ap (λ t. cond t x y) e

-- what the window answers whose lines are taken
pub lines_answer : (desk : DeskView) (win i first n : ℕ) → index_of desk win ≡ Ok i → first + n ≤ (window_at desk i).frame.area.rows → (take_lines_call desk win first n).1 ≡ Ok (window_at desk i).state.clear_ok
unfolding take_lines_call
lines_answer desk win i first n found fits =
    let w : WindowView = window_at desk i in
    let inside : leb (first + n) w.frame.area.rows ≡ true = grind (arith, nat_tests) in
    ap (λ (p : DeskView × Result Bool WinFault). p.1)
    (at_index desk (index_of desk win) i (λ k. let w : WindowView = window_at desk k in cond (leb (first + n) w.frame.area.rows) (with_state (with_window desk k (marked first (first + n) false w)) k (record w.state { clear_ok = false }), Ok w.state.clear_ok) (desk, Err OutOfWindow)) found
    ∙ chosen (leb (first + n) w.frame.area.rows) (with_state (with_window desk i (marked first (first + n) false w)) i (record w.state { clear_ok = false }), Ok w.state.clear_ok) (desk, Err OutOfWindow) inside)

-- a window that is not there, or a part that is refused
pub not_there : (v : VirtualView) (desk : DeskView) (win : ℕ) (fault : WinFault) (part_of : WindowView → Result ShownPart WinFault) (lines : WindowView → ℕ → Bool) → Err fault ≡ window_answer desk win → ((v, desk), Err fault) ≡ part_call v desk win part_of lines
not_there v desk win fault part_of lines answer =
    sym (ap (λ o. on_ok v desk o (λ i. on_ok v desk (part_of (window_at desk i)) (λ part. (taken v desk win i part (lines (window_at desk i)), Ok tt)))) (not_lent desk win fault answer))

pub no_part : (v : VirtualView) (desk : DeskView) (win : ℕ) (lent : LentView) (fault : WinFault) (part_of : WindowView → Result ShownPart WinFault) (lines : WindowView → ℕ → Bool) → Ok lent ≡ window_answer desk win → Err fault ≡ part_of lent.window
    → ((v, desk), Err fault) ≡ part_call v desk win part_of lines
no_part v desk win lent fault part_of lines answer refused =
    let l : Lends desk win lent = lends desk win lent answer in
    sym (ap (λ o. on_ok v desk o (λ i. on_ok v desk (part_of (window_at desk i)) (λ part. (taken v desk win i part (lines (window_at desk i)), Ok tt)))) l.found
    ∙ ap (λ o. on_ok v desk o (λ part. (taken v desk win l.index part (lines (window_at desk l.index)), Ok tt))) (sym (refused ∙ ap (λ (w : LentView). part_of w.window) l.is)))

-- the screen after a part was shown and the window's wish to paint anew was answered
pub part_is_taken : GridLaws CellView → (desk desk2 : DeskView) (win : ℕ) (lent : LentView) (v v1 v2 : VirtualView) (part : ShownPart) (part_of : WindowView → Result ShownPart WinFault) (lines : WindowView → ℕ → Bool) (all : Bool) → Ok lent ≡ window_answer desk win
    → Ok part ≡ part_of lent.window → IsShown v lent part → ((window : WindowView) (line : ℕ) → (all || get_or window.touched line false) ≡ lines window line)
    → v1 ≡ shown part (copied_lines all lent) (lent_at lent) lent.window.state v
    → ((i : ℕ) → index_of desk win ≡ Ok i → part.row + part.rows ≤ (window_at desk i).frame.area.rows → v2 ≡ record v1 { repaint = v1.repaint || (window_at desk i).state.clear_ok })
    → desk2 ≡ (take_lines_call desk win part.row part.rows).0 → ((v2, desk2), Ok tt) ≡ part_call v desk win part_of lines
unfolding part_copied
part_is_taken laws desk desk2 win lent v v1 v2 part part_of lines all answer part_is inside same v1_is v2_is desk2_is =
    let l : Lends desk win lent = lends desk win lent answer in
    let there : part_call v desk win part_of lines ≡ (taken v desk win l.index part (lines (window_at desk l.index)), Ok tt)
    = ap (λ o. on_ok v desk o (λ i. on_ok v desk (part_of (window_at desk i)) (λ part. (taken v desk win i part (lines (window_at desk i)), Ok tt)))) l.found
    ∙ ap (λ o. on_ok v desk o (λ part. (taken v desk win l.index part (lines (window_at desk l.index)), Ok tt))) (sym (part_is ∙ ap (λ (w : LentView). part_of w.window) l.is)) in
    let high = ap (λ (w : LentView). w.window.frame.area.rows) l.is in
    let copied : part_copied part (copied_lines all lent) (lent_at lent) v ≡ part_copied part (lines (window_at desk l.index)) (at desk l.index) v
    = lent_copied laws desk win lent l part (copied_lines all lent) v inside.lines inside.columns_of
    ∙ (λ i. part_copied part (λ line. (ap (λ (w : LentView). copied_lines all w line) l.is ∙ same (window_at desk l.index) line) i) (at desk l.index) v) in
    let screen : v2 ≡ part_taken part (lines (window_at desk l.index)) (at desk l.index) (window_at desk l.index).state v =
    v2_is l.index l.found (omega (arith, inside.lines, high))
    ∙ ap (λ (w : VirtualView). record w { repaint = w.repaint || (window_at desk l.index).state.clear_ok }) v1_is
    ∙ (λ i. record (copied i) {
      picture = record (copied i).picture { wish = wish_of part (l.is i).window.state };
      repaint = v.repaint || (window_at desk l.index).state.clear_ok;
    }) in
    (λ i. ((screen i, desk2_is i), Ok tt)) ∙ sym there
