use Rattle.std.proofs.Common.{◌≡◌, ◌++◌, take, length}
use Rattle.ti_binary.specs.Canonical.{offsets_from, table_of, words}
use Rattle.ti_binary.proofs.sections.put_offsets.Given as goal

abbrev pub invariant-loop-slot : goal.invariant-loop-slot
invariant-loop-slot l = record {
  size : l.size ≡ length (table_of (take l.slot l.entry.texts));
  put : l.out.items ≡ l.fn.out.items ++ words (offsets_from 0 (take l.slot l.entry.texts));
}
