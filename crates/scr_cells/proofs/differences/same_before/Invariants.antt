use Rattle.std.proofs.Common.{ℕ, ◌<◌, ◌≤◌, ◌-◌, length}
use Rattle.scr_cells.specs.Differences.{IsSameAt}
use Rattle.scr_cells.proofs.differences.same_before.Given as goal

-- the rows are the same as far as the loop has come
abbrev pub invariant-loop-at : goal.invariant-loop-at
invariant-loop-at g l = record { inside : l.at ≤ length l.a; same : (i : ℕ) → i < l.at → IsSameAt l.a l.b i }

abbrev pub decreases-loop-at : goal.decreases-loop-at
decreases-loop-at g l = length l.a - l.at
