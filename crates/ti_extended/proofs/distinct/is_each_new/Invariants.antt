use Rattle.std.proofs.Common.{◌≡◌, ◌≤◌, drop, length}
use Rattle.ti_extended.specs.Whole.{are_distinct}
use Rattle.ti_extended.proofs.distinct.is_each_new.Given as goal

abbrev pub invariant-loop-left : goal.invariant-loop-left
invariant-loop-left l = record {
  within : l.left ≤ length l.names;
  behind : l.distinct ≡ are_distinct (drop l.left l.names);
}

abbrev pub decreases-loop-left : goal.decreases-loop-left
decreases-loop-left l = l.left
