-- Copying a window or a part of a pad onto the virtual screen. curs_refresh(3X), wnoutrefresh(); curs_pad(3X),
-- pnoutrefresh(); X/Open Curses Issue 7, the same.
use Rattle.std.specs.Prelude.{ℕ, Bool, true, false, ◌+◌, ◌-◌, ◌==◌, ◌&&◌, ◌||◌, not, leb, ltb, if◌then◌else◌, List, filter, Option, None, Some, Result, Ok, Err, slice_index_or}
use Rattle.std.specs.List.{range_with_len}
use Rattle.scr_cells.specs.CellViews.{CellView, blank_cell}
use Rattle.scr_cells.specs.Grids.{grid_at, grid_of}
use Rattle.std.specs.Option.{is_some}
use Rattle.scr_windows.specs.declared.surfaces.areas.Area.{Area}
use Rattle.scr_windows.specs.declared.faults.WinFault.{WinFault}
use Rattle.scr_windows.specs.declared.faults.WinFault.TheVariants.{IsPad, NotPad, OffScreen, OutOfWindow}
use Rattle.scr_windows.specs.declared.frames.WindowState.{WindowState}
use Rattle.scr_windows.specs.DeskViews.{DeskView, WindowView, window_at}
use Rattle.scr_windows.specs.Changes.{index_of}
use Rattle.scr_windows.specs.Calls.Reading.{at}
use Rattle.scr_windows.specs.Calls.Touching.{take_lines_call}
use Rattle.scr_virtual.specs.declared.parts.ShownPart.{ShownPart}
use Rattle.scr_virtual.specs.Ranges.{joined, joined_by, ranges_with}
use Rattle.scr_virtual.specs.VirtualViews.{VirtualView}

-- Row r of the screen shows a line of the part that is copied.
abbrev pub is_copied : ShownPart → (ℕ → Bool) → ℕ → Bool
is_copied part lines r = leb part.top r && ltb r (part.top + part.rows) && lines (part.row + (r - part.top))

-- The cell that a place of the screen gets from the part.
abbrev pub part_cell : ShownPart → (ℕ → ℕ → CellView) → ℕ → ℕ → CellView
part_cell part cells r c = cells (part.row + (r - part.top)) (part.column + (c - part.left))

-- Two cells are the same.
abbrev pub cell_eq : CellView → CellView → Bool
cell_eq a b = a.character == b.character && a.attrs == b.attrs && a.pair == b.pair

-- The columns, of n from `from` on, in which two rows of cells differ.
abbrev pub columns_unlike : (ℕ → CellView) → (ℕ → CellView) → (from n : ℕ) → List ℕ
columns_unlike old new from n = filter (λ c. not (cell_eq (old c) (new c))) (range_with_len from n)

-- Some lines of a window's part are copied to where the part is shown: the places there have the window's cells, all
-- others keep theirs. The columns copied to have changed; of these, the ones with a different cell may look different.
unfoldable pub part_copied : ShownPart → (ℕ → Bool) → (ℕ → ℕ → CellView) → VirtualView → VirtualView
part_copied part lines cells virtual = record virtual {
  picture = record virtual.picture {
    lines = grid_of virtual.picture.rows virtual.picture.columns (λ r c.
        if is_copied part lines r && leb part.left c && ltb c (part.left + part.columns) then part_cell part cells r c
        else grid_at blank_cell virtual.picture.lines r c);
  };
  changed = ranges_with (is_copied part lines) (λ _. joined (Some (part.left, part.left + part.columns - 1))) virtual.changed;
  altered = ranges_with (is_copied part lines) (λ r. joined_by (columns_unlike (grid_at blank_cell virtual.picture.lines r) (part_cell part cells r) part.left part.columns)) virtual.altered;
}

-- The place of the window lies in the part.
abbrev pub is_shown : ShownPart → ℕ × ℕ → Bool
is_shown part place = leb part.row place.0 && ltb place.0 (part.row + part.rows) && leb part.column place.1 && ltb place.1 (part.column + part.columns)

-- Where a place of the window is shown on the screen, if it lies in the part.
abbrev pub shown_place : ShownPart → ℕ × ℕ → Option (ℕ × ℕ)
shown_place part place = if is_shown part place then Some (part.top + (place.0 - part.row), part.left + (place.1 - part.column)) else None

-- The cursor wish: where the window's cursor is shown, or none if it is not shown or the window sets `leave_ok`.
abbrev pub wish_of : ShownPart → WindowState → Option (ℕ × ℕ)
wish_of part state = if state.leave_ok then None else shown_place part state.cursor

-- The virtual screen after some lines of a part were copied: the cursor wish is the window's, and the screen is to be
-- repainted if that was requested before or the window sets `clear_ok`.
abbrev pub part_taken : ShownPart → (ℕ → Bool) → (ℕ → ℕ → CellView) → WindowState → VirtualView → VirtualView
part_taken part lines cells state virtual =
    let copied : VirtualView = part_copied part lines cells virtual in
    record copied { picture = record copied.picture { wish = wish_of part state }; repaint = virtual.repaint || state.clear_ok }

-- The same for a window of a desk; the part's lines are then no longer touched, and its request to repaint is done.
abbrev pub taken : VirtualView → DeskView → ℕ → ℕ → ShownPart → (ℕ → Bool) → VirtualView × DeskView
taken virtual desk win i part lines = (part_taken part lines (at desk i) (window_at desk i).state virtual, (take_lines_call desk win part.row part.rows).0)

-- A refused step changes nothing; otherwise the call continues with the answer.
abbrev pub on_ok : {A : Type 0} → VirtualView → DeskView → Result A WinFault → (A → (VirtualView × DeskView) × Result (Unit {0}) WinFault) → (VirtualView × DeskView) × Result (Unit {0}) WinFault
on_ok virtual desk (Err fault) f = ((virtual, desk), Err fault)
on_ok virtual desk (Ok answer) f = f answer

-- Copies some lines of a window's part; refused if the window is unknown or there is no such part.
abbrev pub part_call : VirtualView → DeskView → ℕ → (WindowView → Result ShownPart WinFault) → (WindowView → ℕ → Bool) → (VirtualView × DeskView) × Result (Unit {0}) WinFault
part_call virtual desk win part_of lines =
    on_ok virtual desk (index_of desk win) (λ i. on_ok virtual desk (part_of (window_at desk i)) (λ part. (taken virtual desk win i part (lines (window_at desk i)), Ok tt)))

-- A whole window at its place on the screen; a pad has none.
abbrev pub part_at : Area → Option (ℕ × ℕ) → Result ShownPart WinFault
part_at area None = Err IsPad
part_at area (Some place) = Ok (record { row = 0; column = 0; rows = area.rows; columns = area.columns; top = place.0; left = place.1 })

-- The part that is a whole window.
abbrev pub window_part : WindowView → Result ShownPart WinFault
window_part window = part_at window.frame.area window.frame.origin

-- The line is touched.
abbrev pub touched_line : WindowView → ℕ → Bool
touched_line window line = slice_index_or window.touched line false

-- wnoutrefresh(): copies the touched lines of the whole window.
unfoldable pub take_window_call : VirtualView → DeskView → ℕ → (VirtualView × DeskView) × Result (Unit {0}) WinFault
take_window_call virtual desk win = part_call virtual desk win window_part touched_line

-- The part of a pad from (row, column) on that a rectangle of the screen shows. The corners must be in order, the part
-- in the pad, and the rectangle on the screen.
unfoldable pub pad_part : ℕ → ℕ → (row column top left bottom right : ℕ) → WindowView → Result ShownPart WinFault
pad_part rows columns row column top left bottom right window =
    if is_some window.frame.origin then Err NotPad
    else if ltb bottom top || ltb right left then Err OffScreen
    else if ltb window.frame.area.rows (row + (bottom + 1 - top)) || ltb window.frame.area.columns (column + (right + 1 - left)) then Err OutOfWindow
    else if leb rows bottom || leb columns right then Err OffScreen
    else Ok (record { row = row; column = column; rows = bottom + 1 - top; columns = right + 1 - left; top = top; left = left })

-- pnoutrefresh(): copies the whole part, whatever is touched.
unfoldable pub take_pad_call : VirtualView → DeskView → ℕ → (row column top left bottom right : ℕ) → (VirtualView × DeskView) × Result (Unit {0}) WinFault
take_pad_call virtual desk win row column top left bottom right = part_call virtual desk win (pad_part desk.rows desk.columns row column top left bottom right) (λ _ _. true)
