use Rattle.std.proofs.Common.{◌≡◌, ◌++◌, drop, replicate}
use Rattle.scr_cells.proofs.grids.fill_all.Given as goal

abbrev pub invariant-loop-place : goal.invariant-loop-place
invariant-loop-place g l = l.elements ≡ replicate l.place l.element ++ drop l.place l.fn.elements
