-- Characters that are written into a row in one go.
use Rattle.std.specs.Prelude.{ℕ, ◌+◌, nat_lt, List, length, take, Option, Some, None, if◌then◌else◌}
use Rattle.scr_cells.specs.Characters.{is_ascii}
use Rattle.scr_cells.specs.Grids.{grid_with_run}
use Rattle.scr_cells.specs.LookViews.{LookView}
use Rattle.scr_cells.specs.MadeRuns.{made_while}
use Rattle.scr_cells.specs.PenViews.{PenView}
use Rattle.scr_term.specs.declared.operations.operation.Op.{Op}
use Rattle.scr_term.specs.declared.operations.operation.Op.TheVariants.{Put}
use Rattle.scr_term.specs.declared.operations.operation.Spot.{Spot}
use Rattle.scr_term.specs.declared.operations.operation.Spot.TheVariants.{At, Margin}
use Rattle.scr_terminal.specs.Characters.{places_ahead}
use Rattle.scr_term.specs.Operations.States.{TerminalState}

-- the look of a character of ASCII that is written with a pen; none of another operation
abbrev pub look_of : PenView → Op → Option LookView
look_of pen (Put byte) = if is_ascii byte then Some (record { character = byte; pen = pen }) else None
look_of pen op = None

-- the looks of the characters that operations begin with, as far as the cursor's row takes them
abbrev pub looks_ahead : ℕ → TerminalState → List Op → List LookView
looks_ahead columns state ops = made_while (look_of state.pen) (take (places_ahead columns state.spot) ops)

-- the place in a column of a row, and after the last column the margin
abbrev pub spot_after : ℕ → ℕ → ℕ → Spot
spot_after columns r c = if nat_lt c columns then At r c else Margin r

-- the state with looks written from a spot on, and the cursor after them
abbrev pub looks_written : ℕ → TerminalState → List LookView → Spot → TerminalState
looks_written columns state looks (At r c) = record state { grid = grid_with_run state.grid r c looks; spot = spot_after columns r (c + length looks) }
looks_written columns state looks (Margin r) = state
