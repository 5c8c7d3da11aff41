use Rattle.std.proofs.Common.{◌≡◌, false, map, take}
use Rattle.ti_binary.specs.Files.{flag_said, padded}
use Rattle.ti_binary.proofs.filler.set_flags.Given as goal

abbrev pub invariant-loop-slot : goal.invariant-loop-slot
invariant-loop-slot l = l.entry ≡ record l.fn.entry { flags = padded 64 false (map flag_said (take l.slot l.flags)) }
