use Rattle.std.proofs.Common.{◌≡◌, ◌++◌, map, take}
use Rattle.ti_binary.specs.Files.{flag_said}
use Rattle.ti_extended.proofs.reading.add_flags.Given as goal

abbrev pub invariant-loop-byte : goal.invariant-loop-byte
invariant-loop-byte l = l.there.items ≡ l.fn.there.items ++ map flag_said (take l.byte-index l.flags)
