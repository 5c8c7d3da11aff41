use Rattle.std.proofs.Common.{◌≡◌, ◌&&◌, leb, ltb}
use Rattle.scr_virtual.specs.Ranges.{ranges_with}
use Rattle.scr_virtual.proofs.ranges.fill.Given as goal

-- the ranges of the rows up to one are put
abbrev pub invariant-loop-row : goal.invariant-loop-row
invariant-loop-row l = l.ranges ≡ ranges_with (λ r. leb l.first r && ltb r l.row) (λ _ _. l.range) l.fn.ranges
