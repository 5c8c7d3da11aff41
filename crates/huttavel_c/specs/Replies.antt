-- What the functions of the C library give for the answers of a screen's calls.
use Rattle.std.specs.Prelude.{ℕ, ◌+◌, ◌*◌, Bool, true, false, Result, Ok, Err}
use Rattle.scr_cells.specs.CellViews.{CellView}
use Rattle.scr_cells.specs.Characters.{stand_in}
use Rattle.scr_windows.specs.declared.faults.Added.{Added}
use Rattle.scr_windows.specs.declared.faults.Added.TheVariants.{Done, Stayed}
use Rattle.scr_windows.specs.declared.faults.Win.{Win}
use Rattle.scr_windows.specs.declared.faults.WinFault.{WinFault}
use Rattle.huttavel_c.specs.Numbers.{window_number}
use Rattle.huttavel_c.specs.declared.answers.GivenCell.{GivenCell}
use Rattle.huttavel_c.specs.declared.answers.Length.{Length}
use Rattle.huttavel_c.specs.declared.answers.Reply.{Reply}

-- A refusal.
abbrev pub refused : ℕ → Reply
refused fault = record { fault = fault; first = 0; second = 0; third = 0 }

-- A refusal of a call that gives a length.
abbrev pub no_length : ℕ → Length
no_length fault = record { fault = fault; count = 0 }

-- A cell, as C has it: also by the byte that is shown for its character where there is ASCII alone.
abbrev pub given_cell : CellView → GivenCell
given_cell cell = record { byte = stand_in cell.character; attrs = cell.attrs; pair = cell.pair; character = cell.character }

-- One number.
abbrev pub with_one : ℕ → Reply
with_one first = record { fault = 0; first = first; second = 0; third = 0 }

-- Two numbers.
abbrev pub with_two : ℕ × ℕ → Reply
with_two pair = record { fault = 0; first = pair.0; second = pair.1; third = 0 }

-- A cell: its character, the byte that is shown for it where there is ASCII alone, and its colour pair before its
-- attributes.
abbrev pub with_cell : CellView → Reply
with_cell cell = record { fault = 0; first = cell.character; second = stand_in cell.character; third = cell.pair * 256 + cell.attrs }

-- A truth value as a number.
abbrev pub as_number : Bool → ℕ
as_number true = 1
as_number false = 0

-- A call without a result: 0, or why it was refused.
abbrev pub done_number : Result (Unit {0}) WinFault → ℕ
done_number (Ok _) = 0
done_number (Err fault) = window_number fault

-- The number of the window that was made.
abbrev pub made_reply : Result Win WinFault → Reply
made_reply (Ok win) = with_one win.0
made_reply (Err fault) = refused (window_number fault)

-- Whether the cursor stayed.
abbrev pub added_reply : Result Added WinFault → Reply
added_reply (Ok Done) = with_one 0
added_reply (Ok Stayed) = with_one 1
added_reply (Err fault) = refused (window_number fault)

-- Two numbers.
abbrev pub pair_reply : Result (ℕ × ℕ) WinFault → Reply
pair_reply (Ok pair) = with_two pair
pair_reply (Err fault) = refused (window_number fault)

-- A cell.
abbrev pub seen_reply : Result CellView WinFault → Reply
seen_reply (Ok cell) = with_cell cell
seen_reply (Err fault) = refused (window_number fault)

-- Whether lines are touched.
abbrev pub touched_reply : Result Bool WinFault → Reply
touched_reply (Ok touched) = with_one (as_number touched)
touched_reply (Err fault) = refused (window_number fault)
