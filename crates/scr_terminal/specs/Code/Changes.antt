-- What changes on an emulated terminal, and what a change makes of a state.
use Rattle.std.specs.Prelude.{ℕ, ◌≡◌, ◌+◌, ◌<◌, ◌≤◌, Option, option_map}
use Rattle.scr_cells.specs.declared.charsets.Charset.TheVariants.{Utf8}
use Rattle.scr_cells.specs.Grids.{is_in_run, places_left, places_right, rows_down, rows_up}
use Rattle.scr_cells.specs.LookViews.{blank_grid}
use Rattle.scr_cells.specs.PenViews.{PenView, plain_pen, with_attribute}
use Rattle.scr_term.specs.Operations.Abilities.{full_abilities}
use Rattle.scr_term.specs.Operations.States.{TerminalState, IsSpot, IsShownPen, erased, is_from_place, shifted}
use Rattle.scr_term.specs.declared.operations.operation.Op.{Op}
use Rattle.scr_term.specs.declared.operations.operation.Op.TheVariants.{Reset, Enter, Set}
use Rattle.scr_term.specs.declared.operations.operation.Spot.{Spot}
use Rattle.scr_term.specs.declared.operations.operation.Spot.TheVariants.{At}
use Rattle.scr_terminal.specs.declared.changes.Change.{Change}
use Rattle.scr_terminal.specs.declared.changes.Change.TheVariants.{Moved, ErasedRun, ErasedFrom, ErasedAll, Cleared, LinesInserted, LinesDeleted, CharactersInserted, CharactersDeleted, Rendered}

-- a place of the screen, places of one of its rows, lines and characters that it has, and a pen that it shows
abbrev pub IsChange : ℕ → ℕ → Change → Type 0
IsChange rows columns (Moved spot) = IsSpot rows columns spot
IsChange rows columns (ErasedRun row from end) = (row < rows) × (from ≤ end) × (end ≤ columns)
IsChange rows columns (ErasedFrom row column) = (row < rows) × (column < columns)
IsChange rows columns ErasedAll = Unit {0}
IsChange rows columns Cleared = Unit {0}
IsChange rows columns (LinesInserted row n) = row + n ≤ rows
IsChange rows columns (LinesDeleted row n) = row + n ≤ rows
IsChange rows columns (CharactersInserted row column n) = (row < rows) × (column + n ≤ columns)
IsChange rows columns (CharactersDeleted row column n) = (row < rows) × (column + n ≤ columns)
IsChange rows columns (Rendered pen) = IsShownPen (full_abilities Utf8 rows columns) pen

-- the cursor's position alone
abbrev pub IsMoved : Change → Type 0
IsMoved (Moved spot) = Unit {0}
IsMoved change = ⊥

-- the state with the spot, some places or the pen changed
abbrev pub changed : ℕ → ℕ → TerminalState → Change → TerminalState
changed rows columns state (Moved spot) = record state { spot = spot }
changed rows columns state (ErasedRun row from end) = erased rows columns (is_in_run row from end) state
changed rows columns state (ErasedFrom row column) = erased rows columns (is_from_place row column) state
changed rows columns state ErasedAll = record state { grid = blank_grid rows columns }
changed rows columns state Cleared = record state { grid = blank_grid rows columns; spot = At 0 0 }
changed rows columns state (LinesInserted row n) = shifted rows columns (rows_down row rows n) state
changed rows columns state (LinesDeleted row n) = shifted rows columns (rows_up row rows n) state
changed rows columns state (CharactersInserted row column n) = shifted rows columns (places_right row column columns n) state
changed rows columns state (CharactersDeleted row column n) = shifted rows columns (places_left row column columns n) state
changed rows columns state (Rendered pen) = record state { pen = pen }

-- the change, or that there is none, is what a definition makes of each state; of each with this spot; of each with this
-- spot and this pen
abbrev pub Makes : ℕ → ℕ → Option Change → (TerminalState → Option TerminalState) → Type 0
Makes rows columns change f = (state : TerminalState) → option_map (changed rows columns state) change ≡ f state

abbrev pub MakesAt : ℕ → ℕ → Spot → Option Change → (TerminalState → Option TerminalState) → Type 0
MakesAt rows columns spot change f = (state : TerminalState) → state.spot ≡ spot → option_map (changed rows columns state) change ≡ f state

abbrev pub MakesWith : ℕ → ℕ → Spot → PenView → Option Change → (TerminalState → Option TerminalState) → Type 0
MakesWith rows columns spot pen change f =
    (state : TerminalState) → state.spot ≡ spot → state.pen ≡ pen → option_map (changed rows columns state) change ≡ f state

-- the pen after an operation that turns attributes on or off
abbrev pub next_pen : PenView → Op → PenView
next_pen pen Reset = plain_pen
next_pen pen (Enter a) = with_attribute pen a.0
next_pen pen (Set a) = record plain_pen { attrs = a.0 }
next_pen pen _ = pen
