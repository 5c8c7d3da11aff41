use Rattle.std.proofs.Common.{◌≡◌, ◌≤◌, ◌+◌, drop}
use Rattle.ti_caps.specs.declared.table.Kind.TheVariants.{Flag}
use Rattle.ti_caps.specs.Description.{unnamed_from}
use Rattle.ti_caps.proofs.entry.unnamed_flags.Given as goal

-- the count so far and that of the rest are the whole count
abbrev pub invariant-loop-position : goal.invariant-loop-position
invariant-loop-position l =
    (l.count ≤ l.position) × (l.count + unnamed_from Flag l.position (drop l.position l.flags) ≡ unnamed_from Flag 0 l.flags)
