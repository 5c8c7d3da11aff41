use Rattle.std.proofs.Common.{◌≡◌, ◌≤◌, ◌*◌, length, map}
use Rattle.ti_binary.specs.Canonical.{table_of}
use Rattle.ti_binary.specs.Files.{text_said, words_in}
use Rattle.ti_extended.proofs.reading.values_size.Given as goal

abbrev pub invariant-loop-i : goal.invariant-loop-i
invariant-loop-i l = record {
  size : l.size ≡ length (table_of (map (text_said l.table) (words_in l.offsets l.i)));
  small : l.size ≤ 32769 * l.i;
}
