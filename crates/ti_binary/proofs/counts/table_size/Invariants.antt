use Rattle.std.proofs.Common.{◌≡◌, length, take, min}
use Rattle.ti_binary.specs.Canonical.{table_of}
use Rattle.ti_binary.proofs.counts.table_size.Given as goal

abbrev pub invariant-loop-slot : goal.invariant-loop-slot
invariant-loop-slot l = l.size ≡ min (length (table_of (take l.slot l.entry.texts))) l.most
