use Rattle.std.proofs.Common.{◌≡◌, ◌++◌, drop}
use Rattle.ti_extended.specs.Printed.{text_lines}
use Rattle.ti_extended.proofs.printing.put_own_texts.Given as goal

-- the lines so far and those that are left
abbrev pub invariant-loop-i : goal.invariant-loop-i
invariant-loop-i l = l.out.items ++ text_lines (drop l.i l.names) (drop l.i l.texts) ≡ l.fn.out.items ++ text_lines l.names l.texts
