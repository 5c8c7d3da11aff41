use Rattle.std.proofs.Common.{◌≡◌, ◌≤◌, ◌-◌, length, take, Some}
use Rattle.scr_term.specs.Operations.Steps.{runs}
use Rattle.scr_memory.specs.Spares.{HasTried}
use Rattle.scr_memory.proofs.spares.Spare.run.Given as goal

-- the operations before one were executed
abbrev pub invariant-loop-done : goal.invariant-loop-done
invariant-loop-done l = record {
  inside : l.done ≤ length l.ops;
  run : runs l.profile l.fn.self.memory.state (take l.done l.ops) ≡ Some l.self.memory.state;
  tried : HasTried l.fn.self l.self;
}

abbrev pub decreases-loop-done : goal.decreases-loop-done
decreases-loop-done l = length l.ops - l.done
