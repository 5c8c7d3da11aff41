-- What each operation does to the state of a terminal. terminfo(5), 'Basic Capabilities', 'Cursor Motions', 'Area
-- Clears', 'Scrolling', 'Highlighting', 'Color Handling' and 'Miscellaneous'.
use Rattle.std.specs.Prelude.{ℕ, ◌==◌, ◌||◌, ◌&&◌, List, [], ◌∷◌, Option, Some, None, option_and_then, if◌then◌else◌}
use Rattle.std.specs.Option.{is_none}
use Rattle.scr_cells.specs.LookViews.{blank_grid}
use Rattle.scr_cells.specs.PenViews.{PenView, is_plain_pen, plain_pen, with_attribute}
use Rattle.scr_term.specs.Operations.Profiles.{ProfileView}
use Rattle.scr_term.specs.Operations.States.{TerminalState, character_repeated, character_written, characters_deleted, characters_erased, characters_inserted, erased, from_place, is_from_place, lines_deleted, lines_inserted, moved_down, moved_left, moved_right, moved_to, moved_to_column, moved_to_row, moved_up, rest_of_line_erased, scrolled_down, scrolled_up}
use Rattle.scr_term.specs.Operations.Texts.{has}
use Rattle.scr_term.specs.declared.operations.operation.Op.{Op}
use Rattle.scr_term.specs.declared.operations.operation.Op.TheVariants.{Home, Move, Column, Line, Up, Down, Left, Right, UpBy, DownBy, LeftBy, RightBy, Return, Clear, EraseLine, EraseBelow, EraseChars, InsertLines, DeleteLines, InsertChars, DeleteChars, ScrollUp, ScrollDown, Reset, ExitAttributes, Enter, Set, Fore, Back, Put, Write, Repeat}
use Rattle.scr_term.specs.declared.operations.operation.Spot.TheVariants.{At}

-- A motion; with an attribute or a colour on, it is defined only if the terminal has `msgr`.
abbrev pub motion_made : ProfileView → TerminalState → Option TerminalState → Option TerminalState
motion_made profile state next = if profile.msgr || is_plain_pen state.pen then next else None

-- An erasure, an insertion, a deletion or a scroll; undefined with an attribute or a colour on.
abbrev pub erasure_made : TerminalState → Option TerminalState → Option TerminalState
erasure_made state next = if is_plain_pen state.pen then next else None

-- The line of the cursor and all lines below it are erased; defined only in the first column.
abbrev pub lines_below_erased : ℕ → ℕ → TerminalState → Option TerminalState
lines_below_erased rows columns state =
    from_place state.spot (λ r c. if c == 0 then Some (erased rows columns (is_from_place r c) state) else None)

-- The pen is replaced; undefined at the margin.
abbrev pub coloured : TerminalState → PenView → Option TerminalState
coloured state pen = from_place state.spot (λ _ _. Some (record state { pen = pen }))

-- All attributes are turned off; undefined with a colour on, which a terminal may keep or make the default one.
abbrev pub attributes_exited : TerminalState → Option TerminalState
attributes_exited state = if is_none state.pen.foreground && is_none state.pen.background then Some (record state { pen = plain_pen }) else None

-- What an operation that the terminal has does.
abbrev pub act : ProfileView → TerminalState → Op → Option TerminalState
act profile state Home = motion_made profile state (moved_to profile.rows profile.columns state 0 0)
act profile state (Move r c) = motion_made profile state (moved_to profile.rows profile.columns state r c)
act profile state (Column c) = motion_made profile state (moved_to_column profile.rows profile.columns state c)
act profile state (Line r) = motion_made profile state (moved_to_row profile.rows profile.columns state r)
act profile state (Up n) = motion_made profile state (moved_up profile.rows profile.columns state n)
act profile state (Down n) = motion_made profile state (moved_down profile.rows profile.columns state n)
act profile state (Left n) = motion_made profile state (moved_left profile.rows profile.columns state n)
act profile state (Right n) = motion_made profile state (moved_right profile.rows profile.columns state n)
act profile state (UpBy n) = motion_made profile state (moved_up profile.rows profile.columns state n)
act profile state (DownBy n) = motion_made profile state (moved_down profile.rows profile.columns state n)
act profile state (LeftBy n) = motion_made profile state (moved_left profile.rows profile.columns state n)
act profile state (RightBy n) = motion_made profile state (moved_right profile.rows profile.columns state n)
act profile state Return = motion_made profile state (moved_to_column profile.rows profile.columns state 0)
act profile state Clear = erasure_made state (Some (record state { grid = blank_grid profile.rows profile.columns; spot = At 0 0 }))
act profile state EraseLine = erasure_made state (rest_of_line_erased profile.rows profile.columns state)
act profile state EraseBelow = erasure_made state (lines_below_erased profile.rows profile.columns state)
act profile state (EraseChars n) = erasure_made state (characters_erased profile.rows profile.columns state n)
act profile state (InsertLines n) = erasure_made state (lines_inserted profile.rows profile.columns state n)
act profile state (DeleteLines n) = erasure_made state (lines_deleted profile.rows profile.columns state n)
act profile state (InsertChars n) = erasure_made state (characters_inserted profile.rows profile.columns state n)
act profile state (DeleteChars n) = erasure_made state (characters_deleted profile.rows profile.columns state n)
act profile state (ScrollUp n) = erasure_made state (scrolled_up profile.rows profile.columns state n)
act profile state (ScrollDown n) = erasure_made state (scrolled_down profile.rows profile.columns state n)
act profile state Reset = Some (record state { pen = plain_pen })
act profile state ExitAttributes = attributes_exited state
act profile state (Enter a) = Some (record state { pen = with_attribute state.pen a.0 })
act profile state (Set a) = Some (record state { pen = record plain_pen { attrs = a.0 } })
act profile state (Fore n) = coloured state (record state.pen { foreground = Some n })
act profile state (Back n) = coloured state (record state.pen { background = Some n })
act profile state (Put byte) = character_written profile.columns state byte
act profile state (Write code) = character_written profile.columns state code
act profile state (Repeat byte n) = character_repeated profile.columns state byte n

-- The state after an operation; none if it is undefined.
abbrev pub step : ProfileView → TerminalState → Op → Option TerminalState
step profile state op = if has profile op then act profile state op else None

-- The state after several operations; none if one of them is undefined.
abbrev pub runs : ProfileView → TerminalState → List Op → Option TerminalState
runs profile state [] = Some state
runs profile state (op ∷ ops) = option_and_then (λ next. runs profile next ops) (step profile state op)
