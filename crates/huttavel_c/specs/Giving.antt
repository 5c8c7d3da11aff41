-- Cells and characters that C gives by numbers.
use Rattle.std.specs.Prelude.{ℕ, Bool, Result, Ok, Err, nat_le, if◌then◌else◌}
use Rattle.scr_cells.specs.CellViews.{CellView}
use Rattle.scr_cells.specs.Characters.{is_ascii, is_character}
use Rattle.scr_windows.specs.Calls.Settings.{change_background_call, set_background_call}
use Rattle.scr_windows.specs.DeskViews.{DeskView}
use Rattle.scr_windows.specs.declared.faults.WinFault.{WinFault}
use Rattle.huttavel_c.specs.Replies.{done_number}

-- The cell of a byte, attributes and a colour pair, or why there is none.
abbrev pub cell_given : ℕ → ℕ → ℕ → Result CellView ℕ
cell_given byte attrs pair =
    if is_ascii byte then (if nat_le pair 63 then Ok (record { character = byte; attrs = attrs; pair = pair }) else Err 23)
    else Err 15

-- The same of a character.
abbrev pub character_cell_given : ℕ → ℕ → ℕ → Result CellView ℕ
character_cell_given code attrs pair =
    if is_character code then (if nat_le pair 63 then Ok (record { character = code; attrs = attrs; pair = pair }) else Err 23)
    else Err 27

-- A background is changed, or set.
abbrev pub background_call : Bool → DeskView → ℕ → CellView → DeskView × Result (Unit {0}) WinFault
background_call changes desk window cell =
    if changes then change_background_call desk window cell else set_background_call desk window cell

-- A call on the windows with that cell: its answer as a number. Without a cell no window changes.
abbrev pub with_given : (CellView → DeskView × Result (Unit {0}) WinFault) → DeskView → Result CellView ℕ → DeskView × ℕ
with_given call desk (Ok cell) = ((call cell).0, done_number (call cell).1)
with_given call desk (Err fault) = (desk, fault)

-- An answer that is shown as it is.
abbrev pub unchanged : {A : Type 0} → A → A
unchanged answer = answer
