use Rattle.std.proofs.Common.{◌≡◌, ◌<◌, ◌≤◌, ◌-◌}
use Rattle.scr_terminal.proofs.ErasedLaws.{blanked, is_from_place_above}
use Rattle.scr_terminal.proofs.terminal.making.erase_from.Given as goal

abbrev pub decreases-loop-below : goal.decreases-loop-below
decreases-loop-below l = l.rows - l.below

-- the rows above are done
abbrev pub invariant-loop-below : goal.invariant-loop-below
invariant-loop-below l =
    (l.row < l.below) × (l.below ≤ l.rows) × (l.rows ≡ l.fn.grid.rows) × (l.columns ≡ l.fn.grid.columns)
    × (l.grid ≡ blanked l.fn.grid (is_from_place_above l.row l.column l.below))
