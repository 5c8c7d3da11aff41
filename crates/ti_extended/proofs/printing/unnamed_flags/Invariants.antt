use Rattle.std.proofs.Common.{◌≡◌, ◌≤◌, ◌+◌, drop}
use Rattle.ti_caps.specs.declared.table.Kind.TheVariants.{Flag}
use Rattle.ti_extended.specs.Printed.{nameless_from}
use Rattle.ti_extended.proofs.printing.unnamed_flags.Given as goal

-- the count so far and that of the rest are the whole count
abbrev pub invariant-loop-slot : goal.invariant-loop-slot
invariant-loop-slot l =
    (l.count ≤ l.slot) × (l.count + nameless_from (λ there. there) Flag l.slot (drop l.slot l.entry.flags) ≡ nameless_from (λ there. there) Flag 0 l.entry.flags)
