use Rattle.std.proofs.Common.{ℕ, ◌<◌, ◌≤◌, ◌-◌, ◌%◌, ◌≡◌, length, option_map}
use Rattle.scr_cells.specs.Showing.{IsSeenAt}
use Rattle.scr_cells.proofs.showing.shown_before.Given as goal

-- the places as far as the loop has come are shown
abbrev pub invariant-loop-at : goal.invariant-loop-at
invariant-loop-at l = record { inside : l.at ≤ length l.cells; eights : l.at % 8 ≡ 0; same : (i : ℕ) → i < l.at → IsSeenAt l.fn.charset l.fn.shown.0 (option_map (λ looks. looks.now) l.fn.looks) l.cells i }

abbrev pub decreases-loop-at : goal.decreases-loop-at
decreases-loop-at l = length l.cells - l.at
