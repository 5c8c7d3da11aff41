use Rattle.std.proofs.Common.{length}
use Rattle.ti_extended.proofs.gathering.Gathered.add_names.Given as goal

abbrev pub decreases-loop-self : goal.decreases-loop-self
decreases-loop-self l = length l.rest
