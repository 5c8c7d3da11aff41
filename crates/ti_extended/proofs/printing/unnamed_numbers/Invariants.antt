use Rattle.std.proofs.Common.{◌≡◌, ◌≤◌, ◌+◌, drop, is_some}
use Rattle.ti_caps.specs.declared.table.Kind.TheVariants.{Number}
use Rattle.ti_extended.specs.Printed.{nameless_from}
use Rattle.ti_extended.proofs.printing.unnamed_numbers.Given as goal

-- the count so far and that of the rest are the whole count
abbrev pub invariant-loop-slot : goal.invariant-loop-slot
invariant-loop-slot l =
    (l.count ≤ l.slot) × (l.count + nameless_from is_some Number l.slot (drop l.slot l.numbers) ≡ nameless_from is_some Number 0 l.numbers)
