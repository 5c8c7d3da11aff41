use Rattle.std.proofs.Common.{length, ◌-◌}
use Rattle.scr_planner.proofs.blanks.price_on_blanks.Given as goal

abbrev pub decreases-loop-column : goal.decreases-loop-column
decreases-loop-column l = length l.cells - l.column
