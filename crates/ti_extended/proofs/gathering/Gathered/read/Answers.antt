use Rattle.std.proofs.Common.{ap, arith, length}
use Rattle.ti_extended.proofs.gathering.Gathered.read.Goals as goal

pub loop-number-smaller : goal.loop-number-smaller
loop-number-smaller c = omega (arith, ap length c.in-Some.ensures)
