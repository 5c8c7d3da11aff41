use Rattle.std.proofs.Common.{arith}
use Rattle.scr_cells.proofs.DifferenceLaws.{more_before}
use Rattle.scr_cells.proofs.differences.same_before.Goals as goal

pub loop-at-preserved : goal.loop-at-preserved
loop-at-preserved g c = record { inside = omega arith; same = more_before c.args.a.now c.args.b.now c.loop-at.at 8 c.loop-at.invariant.same (c.same_eight.ensures c.if-same_eight.true) }
