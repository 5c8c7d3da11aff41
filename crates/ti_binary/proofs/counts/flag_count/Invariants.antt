use Rattle.std.proofs.Common.{◌≡◌, ◌≤◌, take}
use Rattle.ti_binary.specs.Canonical.{up_to_last}
use Rattle.ti_binary.proofs.counts.flag_count.Given as goal

abbrev pub invariant-loop-slot : goal.invariant-loop-slot
invariant-loop-slot l = record {
  few : l.count ≤ l.slot;
  kept : take l.count l.entry.flags ≡ up_to_last (λ present. present) (take l.slot l.entry.flags);
}
