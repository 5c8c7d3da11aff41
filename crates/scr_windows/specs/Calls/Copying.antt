-- What the calls that copy cells do. X/Open Curses Issue 7, copywin(), overlay(), overwrite().
use Rattle.std.specs.Prelude.{ℕ, Bool, Option, None, Some, Result, Ok, Err, ◌+◌, ◌-◌, ◌==◌, ◌||◌, ◌&&◌, leb, min, max, if◌then◌else◌}
use Rattle.scr_windows.specs.declared.surfaces.areas.Area.{Area}
use Rattle.scr_windows.specs.declared.faults.WinFault.{WinFault}
use Rattle.scr_windows.specs.declared.faults.WinFault.TheVariants.{IsPad, OutOfWindow}
use Rattle.scr_windows.specs.Surfaces.Formulas.{part_laid}
use Rattle.scr_windows.specs.DeskViews.{DeskView, window_at}
use Rattle.scr_windows.specs.Changes.{index_of, on_window, write}
use Rattle.scr_windows.specs.Calls.Reading.{at}

-- The cells of window i, from (row, column) on, are laid over a part of window j, and its lines there are touched. The
-- cells are those before the call.
abbrev pub copied : DeskView → ℕ → ℕ → ℕ → ℕ → Area → Bool → DeskView
copied desk i j row column part overlay = write desk j part.top (part.top + part.rows) (part_laid overlay part (λ r c. at desk i (row + r) (column + c)))

-- The places from (row, column) on, as many as the part has, lie in the area.
abbrev pub has_part : Area → ℕ → ℕ → Area → Bool
has_part area row column part = leb (row + part.rows) area.rows && leb (column + part.columns) area.columns

-- copywin(): the target part is given by its first and last row and column.
unfoldable pub copy_call : DeskView → ℕ → ℕ → ℕ → ℕ → ℕ → ℕ → ℕ → ℕ → Bool → DeskView × Result (Unit {0}) WinFault
copy_call desk source target row column top left bottom right overlay =
    on_window desk (index_of desk source) (λ i. on_window desk (index_of desk target) (λ j.
    let part : Area = record { top = top; left = left; rows = bottom + 1 - top; columns = right + 1 - left } in
    if leb top bottom && leb left right && has_part (window_at desk j).frame.area top left part && has_part (window_at desk i).frame.area row column part then
    (copied desk i j row column part overlay, Ok tt)
    else (desk, Err OutOfWindow)))

-- The part of the screen that both windows cover is copied from one to the other; nothing if they do not overlap.
abbrev pub laid_over : DeskView → ℕ → ℕ → ℕ × ℕ → ℕ × ℕ → Bool → DeskView
laid_over desk i j source target overlay =
    let a : Area = (window_at desk i).frame.area in
    let b : Area = (window_at desk j).frame.area in
    let top : ℕ = max source.0 target.0 in
    let left : ℕ = max source.1 target.1 in
    let rows : ℕ = min (source.0 + a.rows) (target.0 + b.rows) - top in
    let columns : ℕ = min (source.1 + a.columns) (target.1 + b.columns) - left in
    if rows == 0 || columns == 0 then desk
    else copied desk i j (top - source.0) (left - source.1) (record { top = top - target.0; left = left - target.1; rows = rows; columns = columns }) overlay

-- The same, refused if either window is a pad.
abbrev pub over_screen : DeskView → ℕ → ℕ → Option (ℕ × ℕ) → Option (ℕ × ℕ) → Bool → DeskView × Result (Unit {0}) WinFault
over_screen desk i j None target overlay = (desk, Err IsPad)
over_screen desk i j (Some source) None overlay = (desk, Err IsPad)
over_screen desk i j (Some source) (Some target) overlay = (laid_over desk i j source target overlay, Ok tt)

-- overlay(), and overwrite() where `overlay` is false.
unfoldable pub overlay_call : DeskView → ℕ → ℕ → Bool → DeskView × Result (Unit {0}) WinFault
overlay_call desk source target overlay =
    on_window desk (index_of desk source) (λ i. on_window desk (index_of desk target) (λ j.
    over_screen desk i j (window_at desk i).frame.origin (window_at desk j).frame.origin overlay))
