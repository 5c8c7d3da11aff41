use Rattle.std.proofs.Common.{ℕ, ◌<◌, ◌≤◌, ◌-◌, ◌%◌, ◌≡◌, get_or, length}
use Rattle.scr_cells.specs.CellViews.{blank_cell}
use Rattle.scr_cells.specs.Showing.{HasRendition}
use Rattle.scr_cells.proofs.showing.alike_before.Given as goal

abbrev pub invariant-loop-at : goal.invariant-loop-at
invariant-loop-at l = record { inside : l.at ≤ length l.cells; eights : l.at % 8 ≡ 0; alike : (i : ℕ) → i < l.at → HasRendition (get_or l.cells 0 blank_cell) l.cells i }

abbrev pub decreases-loop-at : goal.decreases-loop-at
decreases-loop-at l = length l.cells - l.at
