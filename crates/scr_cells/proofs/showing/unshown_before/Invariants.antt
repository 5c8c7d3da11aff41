use Rattle.std.proofs.Common.{ℕ, ◌<◌, ◌≤◌, ◌-◌, ◌%◌, ◌≡◌, get_or, length, option_map}
use Rattle.scr_cells.specs.CellViews.{blank_cell}
use Rattle.scr_cells.specs.Showing.{HasRendition, IsUnseenAt}
use Rattle.scr_cells.proofs.showing.unshown_before.Given as goal

-- the places as far as the loop has come are not shown, and have the first cell's attributes
abbrev pub invariant-loop-at : goal.invariant-loop-at
invariant-loop-at l = record {
  inside : l.at ≤ length l.cells;
  eights : l.at % 8 ≡ 0;
  unseen : (i : ℕ) → i < l.at → IsUnseenAt l.fn.charset l.fn.shown.0 (option_map (λ looks. looks.now) l.fn.looks) l.cells i;
  alike : (i : ℕ) → i < l.at → HasRendition (get_or l.cells 0 blank_cell) l.cells i;
}

abbrev pub decreases-loop-at : goal.decreases-loop-at
decreases-loop-at l = length l.cells - l.at
