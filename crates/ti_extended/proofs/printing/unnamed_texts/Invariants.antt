use Rattle.std.proofs.Common.{◌≡◌, ◌≤◌, ◌+◌, drop, is_some}
use Rattle.ti_caps.specs.declared.table.Kind.TheVariants.{Text}
use Rattle.ti_extended.specs.Printed.{nameless_from}
use Rattle.ti_extended.proofs.printing.unnamed_texts.Given as goal

-- the count so far and that of the rest are the whole count
abbrev pub invariant-loop-slot : goal.invariant-loop-slot
invariant-loop-slot l =
    (l.count ≤ l.slot) × (l.count + nameless_from is_some Text l.slot (drop l.slot l.entry.texts) ≡ nameless_from is_some Text 0 l.entry.texts)
