use Rattle.std.proofs.Common.{length}
use Rattle.ti_extended.proofs.gathering.Gathered.add_fields.Given as goal

abbrev pub decreases-loop-more : goal.decreases-loop-more
decreases-loop-more l = length l.rest
