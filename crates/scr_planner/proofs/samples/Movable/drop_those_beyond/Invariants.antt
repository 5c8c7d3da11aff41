use Rattle.std.proofs.Common.{◌-◌}
use Rattle.scr_planner.proofs.samples.Movable.drop_those_beyond.Given as goal

abbrev pub decreases-loop-self : goal.decreases-loop-self
decreases-loop-self l = l.self.up

abbrev pub decreases-loop-self-2 : goal.decreases-loop-self-2
decreases-loop-self-2 l = l.count - l.self.down
