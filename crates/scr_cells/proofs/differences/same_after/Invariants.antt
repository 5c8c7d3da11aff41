use Rattle.std.proofs.Common.{ℕ, ◌<◌, ◌≤◌, length}
use Rattle.scr_cells.specs.Differences.{IsSameAt}
use Rattle.scr_cells.proofs.differences.same_after.Given as goal

-- the rows are the same after where the loop has come
abbrev pub invariant-loop-end : goal.invariant-loop-end
invariant-loop-end g l = record { inside : l.end ≤ length l.a; same : (i : ℕ) → l.end ≤ i → i < length l.a → IsSameAt l.a l.b i }

abbrev pub decreases-loop-end : goal.decreases-loop-end
decreases-loop-end g l = l.end
