-- Cells that are copied to C.
use Rattle.std.specs.Prelude.{ℕ, ◌≡◌, ◌++◌, List, Result, Ok, Err, drop, length, ltb, map, min, take, if◌then◌else◌}
use Rattle.scr_cells.specs.CellViews.{CellView}
use Rattle.scr_windows.specs.Calls.Reading.{row_answer}
use Rattle.scr_windows.specs.declared.faults.WinFault.{WinFault}
use Rattle.scr_windows.specs.declared.faults.WinFault.TheVariants.{OutOfWindow}
use Rattle.huttavel_c.specs.Numbers.{window_number}
use Rattle.huttavel_c.specs.Replies.{given_cell, no_length}
use Rattle.huttavel_c.specs.declared.answers.GivenCell.{GivenCell}
use Rattle.huttavel_c.specs.declared.answers.Length.{Length}
use Rattle.huttavel_c.specs.declared.sessions.Session.{Session}

-- The cells of a row from a column on; there has to be one.
abbrev pub cells_from : Result (List CellView) WinFault → ℕ → Result (List CellView) WinFault
cells_from (Err fault) column = Err fault
cells_from (Ok row) column = if ltb column (length row) then Ok (drop column row) else Err OutOfWindow

-- They are copied, as many as there is room for, and their number is the answer; or nothing is copied.
abbrev pub IsGiven : Result (List CellView) WinFault → List GivenCell → List GivenCell → Length → Type 0
IsGiven (Err fault) before after answer = (after ≡ before) × (answer ≡ no_length (window_number fault))
IsGiven (Ok cells) before after answer =
    (after ≡ map given_cell (take (min (length cells) (length before)) cells) ++ drop (min (length cells) (length before)) before)
    × (answer ≡ record { fault = 0; count = min (length cells) (length before) })

-- Cells of a row of a window, from a column on. Nothing of the session changes.
abbrev pub CopiesCells : (window row column : ℕ) → List GivenCell → List GivenCell → Session → Session → Length → Type 0
CopiesCells window row column before after old new answer =
    (new ≡ old) × IsGiven (cells_from (row_answer old.screen.desk window row) column) before after answer
