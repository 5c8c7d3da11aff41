use Rattle.std.proofs.Common.{ℕ, ◌<◌}
use Rattle.scr_cells.specs.Differences.{IsSameAt}
use Rattle.scr_cells.proofs.differences.first_place.Given as goal

-- the rows are the same as far as the loop has come
abbrev pub invariant-loop-place : goal.invariant-loop-place
invariant-loop-place g l = (i : ℕ) → i < l.place → IsSameAt l.a l.b i
