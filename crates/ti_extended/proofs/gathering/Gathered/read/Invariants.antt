use Rattle.std.proofs.Common.{length}
use Rattle.ti_extended.proofs.gathering.Gathered.read.Given as goal

abbrev pub decreases-loop-number : goal.decreases-loop-number
decreases-loop-number l = length l.lines
