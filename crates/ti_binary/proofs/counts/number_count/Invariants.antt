use Rattle.std.proofs.Common.{◌≡◌, ◌≤◌, take, is_some}
use Rattle.ti_binary.specs.Canonical.{up_to_last}
use Rattle.ti_binary.proofs.counts.number_count.Given as goal

abbrev pub invariant-loop-slot : goal.invariant-loop-slot
invariant-loop-slot l = record {
  few : l.count ≤ l.slot;
  kept : take l.count l.entry.numbers ≡ up_to_last is_some (take l.slot l.entry.numbers);
}
