use Rattle.std.proofs.Common.{◌≡◌, ◌++◌, drop}
use Rattle.ti_source.specs.Printing.Print.{lines_from}
use Rattle.ti_extended.specs.Printed.{flag_line}
use Rattle.ti_extended.proofs.printing.put_flags.Given as goal

-- the lines so far and those of the slots that are left
abbrev pub invariant-loop-slot : goal.invariant-loop-slot
invariant-loop-slot l = l.out.items ++ lines_from flag_line l.slot (drop l.slot l.entry.flags) ≡ l.fn.out.items ++ lines_from flag_line 0 l.entry.flags
