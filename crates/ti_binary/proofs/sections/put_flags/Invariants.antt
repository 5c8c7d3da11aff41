use Rattle.std.proofs.Common.{◌≡◌, ◌++◌, take, map}
use Rattle.ti_binary.specs.Canonical.{flag_byte}
use Rattle.ti_binary.proofs.sections.put_flags.Given as goal

abbrev pub invariant-loop-slot : goal.invariant-loop-slot
invariant-loop-slot l = l.out.items ≡ l.fn.out.items ++ map flag_byte (take l.slot l.entry.flags)
