use Rattle.std.proofs.Common.{◌≡◌, ◌++◌, drop}
use Rattle.ti_extended.specs.Printed.{number_lines}
use Rattle.ti_extended.proofs.printing.put_own_numbers.Given as goal

-- the lines so far and those that are left
abbrev pub invariant-loop-i : goal.invariant-loop-i
invariant-loop-i l = l.out.items ++ number_lines (drop l.i l.names) (drop l.i l.numbers) ≡ l.fn.out.items ++ number_lines l.names l.numbers
