use Rattle.std.proofs.Common.{◌≡◌, ◌≤◌, map, None}
use Rattle.ti_binary.specs.Files.{clamped_count, number_said, numbers_in, padded}
use Rattle.ti_binary.proofs.filler.set_numbers.Given as goal

abbrev pub invariant-loop-slot : goal.invariant-loop-slot
invariant-loop-slot l = record {
  set : l.entry ≡ record l.fn.entry { numbers = padded 64 None (map (number_said l.width) (numbers_in l.width l.numbers l.slot)) };
  counted : l.clamped ≡ clamped_count l.width l.numbers l.slot;
  few : l.clamped ≤ l.slot;
}
