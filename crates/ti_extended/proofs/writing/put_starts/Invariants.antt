use Rattle.std.proofs.Common.{◌≡◌, ◌++◌, length, take}
use Rattle.ti_binary.specs.Canonical.{words}
use Rattle.ti_extended.specs.Forms.{joined, starts}
use Rattle.ti_extended.proofs.writing.put_starts.Given as goal

abbrev pub invariant-loop-text : goal.invariant-loop-text
invariant-loop-text l = record {
  size : l.size ≡ length (joined (take l.text-index l.texts));
  put : l.out.items ≡ l.fn.out.items ++ words (starts 0 (take l.text-index l.texts));
}
