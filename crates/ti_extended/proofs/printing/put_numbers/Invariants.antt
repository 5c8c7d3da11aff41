use Rattle.std.proofs.Common.{◌≡◌, ◌++◌, drop}
use Rattle.ti_source.specs.Printing.Print.{lines_from}
use Rattle.ti_extended.specs.Printed.{number_line}
use Rattle.ti_extended.proofs.printing.put_numbers.Given as goal

-- the lines so far and those of the slots that are left
abbrev pub invariant-loop-slot : goal.invariant-loop-slot
invariant-loop-slot l = l.out.items ++ lines_from number_line l.slot (drop l.slot l.numbers) ≡ l.fn.out.items ++ lines_from number_line 0 l.numbers
