use Rattle.std.proofs.Common.{length}
use Rattle.screendemo.proofs.last_update.run_to_update.Given as goal

abbrev pub decreases-loop-rest : goal.decreases-loop-rest
decreases-loop-rest l = length l.rest
