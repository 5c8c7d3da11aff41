use Rattle.std.proofs.Common.{◌≡◌, ◌++◌, take}
use Rattle.ti_binary.specs.Canonical.{table_of}
use Rattle.ti_binary.proofs.sections.put_texts.Given as goal

abbrev pub invariant-loop-slot : goal.invariant-loop-slot
invariant-loop-slot l = l.out.items ≡ l.fn.out.items ++ table_of (take l.slot l.entry.texts)
