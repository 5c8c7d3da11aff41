use Rattle.std.proofs.Common.{◌≡◌, take}
use Rattle.ti_extended.proofs.whole_entry.numbers_of.Given as goal

abbrev pub invariant-loop-slot : goal.invariant-loop-slot
invariant-loop-slot l = l.numbers.items ≡ take l.slot l.entry.numbers
