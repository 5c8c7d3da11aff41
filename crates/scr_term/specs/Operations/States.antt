-- The state of a terminal: what its screen shows, where its cursor is, and what it writes with. terminfo(5), 'Cursor
-- Motions' and 'Highlighting'; ECMA-48, 'active presentation position'.
use Rattle.std.specs.Prelude.{ℕ, ◌≡◌, ◌+◌, ◌-◌, ◌<◌, ◌==◌, ◌&&◌, ◌||◌, Bool, true, false, List, All, bit_and, nat_le, nat_lt, if◌then◌else◌, Option, Some, None, IfSome, replicate}
use Rattle.scr_cells.specs.Grids.{IsGrid, grid_at, grid_filled, grid_of, grid_with, grid_with_run, is_in_run, places_left, places_right, rows_down, rows_up}
use Rattle.scr_cells.specs.LookViews.{LookView, IsLook, blank, blank_grid, negative_grid}
use Rattle.scr_cells.specs.PenViews.{PenView, IsColour, negative_pen, plain_pen}
use Rattle.scr_term.specs.Operations.Abilities.{Abilities}
use Rattle.scr_term.specs.declared.operations.operation.Spot.{Spot}
use Rattle.scr_term.specs.declared.operations.operation.Spot.TheVariants.{At, Margin}

-- The state: the looks in rows from the top, the cursor's position, and the pen (the attributes that are on, and the
-- current colours).
pub record TerminalState : Type 0 where
  pub grid : List (List LookView)
  pub spot : Spot
  pub pen : PenView

-- A place on the screen, or the margin after the last column of a row.
abbrev pub IsSpot : ℕ → ℕ → Spot → Type 0
IsSpot rows columns (At r c) = (r < rows) × (c < columns)
IsSpot rows columns (Margin r) = r < rows

-- Colours that a terminal can have: the eight and the default on one with colours, only the default on one without.
abbrev pub AreShownColours : Bool → Option ℕ → Option ℕ → Type 0
AreShownColours true foreground background = IfSome foreground IsColour × IfSome background IsColour
AreShownColours false foreground background = (foreground ≡ None) × (background ≡ None)

-- A pen that this terminal can have: only attributes that it shows, and default colours if it shows none.
pub record IsShownPen (abilities : Abilities) (pen : PenView) : Type 0 where
  pub attrs : bit_and abilities.shown pen.attrs ≡ pen.attrs
  pub colours : AreShownColours abilities.colours pen.foreground pen.background

-- A state that this terminal can be in.
pub record IsState (abilities : Abilities) (state : TerminalState) : Type 0 where
  pub whole : IsGrid abilities.rows abilities.columns state.grid
  pub looks : All (All IsLook) state.grid
  pub spot : IsSpot abilities.rows abilities.columns state.spot
  pub pen : IsShownPen abilities state.pen

-- Blanks everywhere, the cursor in the first place, no attribute on, default colours.
abbrev pub blank_state : ℕ → ℕ → TerminalState
blank_state rows columns = record { grid = blank_grid rows columns; spot = At 0 0; pen = plain_pen }

-- The negative of a state: reverse in place of standout, everywhere.
abbrev pub negative_state : TerminalState → TerminalState
negative_state state = record state { grid = negative_grid state.grid; pen = negative_pen state.pen }

-- Where the cursor is after a character in row r and column c: to its right, or at the margin after the last column.
abbrev pub spot_after : ℕ → ℕ → ℕ → Spot
spot_after columns r c = if nat_lt (c + 1) columns then At r (c + 1) else Margin r

-- Writes a character at this position, with the pen; undefined at the margin.
abbrev pub written_at : ℕ → TerminalState → ℕ → Spot → Option TerminalState
written_at columns state byte (At r c) = Some (record state {
  grid = grid_with state.grid r c (record { character = byte; pen = state.pen });
  spot = spot_after columns r c;
})
written_at columns state byte (Margin r) = None

-- Writes a character at the cursor and moves the cursor right; undefined at the margin.
abbrev pub character_written : ℕ → TerminalState → ℕ → Option TerminalState
character_written columns state byte = written_at columns state byte state.spot

-- Something said of the cursor's place; undefined at the margin.
abbrev pub from_place : {A : Type 0} → Spot → (ℕ → ℕ → Option A) → Option A
from_place (At r c) f = f r c
from_place (Margin r) f = None

-- The cursor to row r and column c; undefined off the screen.
abbrev pub moved_to : ℕ → ℕ → TerminalState → ℕ → ℕ → Option TerminalState
moved_to rows columns state r c = if nat_lt r rows && nat_lt c columns then Some (record state { spot = At r c }) else None

-- The cursor n places up; undefined off the screen or at the margin.
abbrev pub moved_up : ℕ → ℕ → TerminalState → ℕ → Option TerminalState
moved_up rows columns state n = from_place state.spot (λ r c. if nat_le n r then moved_to rows columns state (r - n) c else None)

-- The cursor n places down; undefined likewise.
abbrev pub moved_down : ℕ → ℕ → TerminalState → ℕ → Option TerminalState
moved_down rows columns state n = from_place state.spot (λ r c. moved_to rows columns state (r + n) c)

-- The cursor n places right; undefined likewise.
abbrev pub moved_right : ℕ → ℕ → TerminalState → ℕ → Option TerminalState
moved_right rows columns state n = from_place state.spot (λ r c. moved_to rows columns state r (c + n))

-- The cursor n places left; undefined likewise.
abbrev pub moved_left : ℕ → ℕ → TerminalState → ℕ → Option TerminalState
moved_left rows columns state n = from_place state.spot (λ r c. if nat_le n c then moved_to rows columns state r (c - n) else None)

-- The cursor to another column of its row; undefined off the screen or at the margin.
abbrev pub moved_to_column : ℕ → ℕ → TerminalState → ℕ → Option TerminalState
moved_to_column rows columns state column = from_place state.spot (λ r _. moved_to rows columns state r column)

-- The cursor to another row in its column; undefined likewise.
abbrev pub moved_to_row : ℕ → ℕ → TerminalState → ℕ → Option TerminalState
moved_to_row rows columns state row = from_place state.spot (λ _ c. moved_to rows columns state row c)

-- These places become blanks without attributes, in default colours; the cursor stays.
abbrev pub erased : ℕ → ℕ → (ℕ → ℕ → Bool) → TerminalState → TerminalState
erased rows columns inside state = record state { grid = grid_filled rows columns inside (λ _ _. blank) (grid_at blank state.grid) }

-- The places from this one to the end of the screen.
abbrev pub is_from_place : ℕ → ℕ → ℕ → ℕ → Bool
is_from_place row column r c = nat_lt row r || (r == row && nat_le column c)

-- The places from the cursor to the end of its line are erased; undefined at the margin.
abbrev pub rest_of_line_erased : ℕ → ℕ → TerminalState → Option TerminalState
rest_of_line_erased rows columns state = from_place state.spot (λ r c. Some (erased rows columns (is_in_run r c columns) state))

-- n characters from the cursor on are erased; undefined beyond the end of the line.
abbrev pub characters_erased : ℕ → ℕ → TerminalState → ℕ → Option TerminalState
characters_erased rows columns state n =
    from_place state.spot (λ r c. if nat_le (c + n) columns then Some (erased rows columns (is_in_run r c (c + n)) state) else None)

-- Lines or characters move; what is left free becomes blanks without attributes, in default colours; the cursor stays.
abbrev pub shifted : ℕ → ℕ → (LookView → (ℕ → ℕ → LookView) → ℕ → ℕ → LookView) → TerminalState → TerminalState
shifted rows columns move state = record state { grid = grid_of rows columns (move blank (grid_at blank state.grid)) }

-- n blank lines are inserted before the cursor's line, and the last n are lost; undefined at the margin, outside the
-- first column, and where there are not so many lines from the cursor's on.
abbrev pub lines_inserted : ℕ → ℕ → TerminalState → ℕ → Option TerminalState
lines_inserted rows columns state n =
    from_place state.spot (λ r c. if c == 0 && nat_le (r + n) rows then Some (shifted rows columns (rows_down r rows n) state) else None)

-- n lines from the cursor's on are deleted, and the last n become blank; undefined likewise.
abbrev pub lines_deleted : ℕ → ℕ → TerminalState → ℕ → Option TerminalState
lines_deleted rows columns state n =
    from_place state.spot (λ r c. if c == 0 && nat_le (r + n) rows then Some (shifted rows columns (rows_up r rows n) state) else None)

-- n blanks are inserted at the cursor, and the last n places of its line are lost; undefined beyond the end of the line.
abbrev pub characters_inserted : ℕ → ℕ → TerminalState → ℕ → Option TerminalState
characters_inserted rows columns state n =
    from_place state.spot (λ r c. if nat_le (c + n) columns then Some (shifted rows columns (places_right r c columns n) state) else None)

-- n characters from the cursor on are deleted, and the last n places of its line become blank; undefined likewise.
abbrev pub characters_deleted : ℕ → ℕ → TerminalState → ℕ → Option TerminalState
characters_deleted rows columns state n =
    from_place state.spot (λ r c. if nat_le (c + n) columns then Some (shifted rows columns (places_left r c columns n) state) else None)

-- All lines go up by n: the first n are lost, and n blank ones come in below. Undefined outside the bottom left corner,
-- and for more lines than there are.
abbrev pub scrolled_up : ℕ → ℕ → TerminalState → ℕ → Option TerminalState
scrolled_up rows columns state n =
    from_place state.spot (λ r c. if c == 0 && r + 1 == rows && nat_le n rows then Some (shifted rows columns (rows_up 0 rows n) state) else None)

-- All lines go down by n: the last n are lost, and n blank ones come in above. Undefined outside the top left corner,
-- and for more lines than there are.
abbrev pub scrolled_down : ℕ → ℕ → TerminalState → ℕ → Option TerminalState
scrolled_down rows columns state n =
    from_place state.spot (λ r c. if c == 0 && r == 0 && nat_le n rows then Some (shifted rows columns (rows_down 0 rows n) state) else None)

-- A character is written n times from the cursor on, with the pen, and the cursor goes behind the last; undefined at the
-- margin, and where the last column would be written.
abbrev pub character_repeated : ℕ → TerminalState → ℕ → ℕ → Option TerminalState
character_repeated columns state byte n =
    from_place state.spot (λ r c. if nat_lt (c + n) columns then Some (record state {
      grid = grid_with_run state.grid r c (replicate n (record { character = byte; pen = state.pen }));
      spot = At r (c + n);
    }) else None)
