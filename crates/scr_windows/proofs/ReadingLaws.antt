-- What is read of a window.
use Rattle.std.proofs.Common.{◌≡◌, ℕ, ◌<◌, sym, ◌∙◌, ap, arith, List, get_or, cond, ltb, ◌&&◌, true, Result, Ok, Err}
use Rattle.std.proofs.lemmas.Bool.Decides.{nat_tests}
use Rattle.std.proofs.lemmas.List.FromFn.{get_or-map-range_with_len}
use Rattle.scr_cells.specs.CellViews.{CellView}
use Rattle.scr_windows.specs.declared.surfaces.areas.Area.{Area}
use Rattle.scr_windows.specs.declared.faults.WinFault.{WinFault}
use Rattle.scr_windows.specs.declared.faults.WinFault.TheVariants.{OutOfWindow}
use Rattle.scr_windows.specs.DeskViews.{DeskView, window_at}
use Rattle.scr_windows.specs.Changes.{index_of}
use Rattle.scr_windows.specs.Calls.Reading.{at, row_at, about_window, cell_at_answer}

inside_test : (r c rows columns : ℕ) → r < rows → c < columns → (ltb r rows && ltb c columns) ≡ true
inside_test r c rows columns h k = grind (arith, nat_tests)

pub cell_answer : (d : DeskView) (win row column index : ℕ) (area : Area) (cells : List CellView) (cell : CellView) → index_of d win ≡ Ok index → area ≡ (window_at d index).frame.area
    → row < area.rows → column < area.columns → cells ≡ row_at d index row → cell ≡ get_or cells column cell → Ok cell ≡ cell_at_answer d win row column
unfolding cell_at_answer
cell_answer d win row column index area cells cell index_is area_is row_in column_in cells_is cell_is =
    let inside : (ltb row (window_at d index).frame.area.rows && ltb column (window_at d index).frame.area.columns) ≡ true
    = inside_test row column (window_at d index).frame.area.rows (window_at d index).frame.area.columns (omega (arith, row_in, ap (λ (a : Area). a.rows) area_is)) (omega (arith, column_in, ap (λ (a : Area). a.columns) area_is)) in
    let value : cell ≡ at d index row column = cell_is ∙ ap (λ xs. get_or xs column cell) cells_is ∙ get_or-map-range_with_len (at d index row) 0 (window_at d index).frame.area.columns column column cell (omega (arith, column_in, ap (λ (a : Area). a.columns) area_is)) (omega arith) in
    let found : Result CellView WinFault = cond (ltb row (window_at d index).frame.area.rows && ltb column (window_at d index).frame.area.columns) (Ok (at d index row column)) (Err OutOfWindow) in
    let yes : found ≡ Ok (at d index row column) = ap (λ b. cond b (Ok (at d index row column)) (Err OutOfWindow)) inside in
    let there : cell_at_answer d win row column ≡ found = ap (λ p. about_window p (λ i. cond (ltb row (window_at d i).frame.area.rows && ltb column (window_at d i).frame.area.columns) (Ok (at d i row column)) (Err OutOfWindow))) index_is in
    ap Ok value ∙ sym (there ∙ yes)
