use Rattle.std.proofs.Common.{length, ◌-◌, ◌≡◌, ◌≤◌, take}
use Rattle.std.specs.Io.KnownBytes.{Appends}
use Rattle.curses.proofs.sending.put_whole.Given as goal

abbrev pub invariant-loop-bytes : goal.invariant-loop-bytes
invariant-loop-bytes g l = record {
  inside : l.bytes ≤ length l.text;
  writer : Appends (g.W.Counted.told l.fn.out).taken (g.W.Counted.told l.out).taken (take l.bytes l.text);
  failed_puts : (g.W.Counted.told l.out).failed_puts ≡ (g.W.Counted.told l.fn.out).failed_puts;
  finishes : (g.W.Counted.told l.out).finishes ≡ (g.W.Counted.told l.fn.out).finishes;
}

abbrev pub decreases-loop-bytes : goal.decreases-loop-bytes
decreases-loop-bytes g l = length l.text - l.bytes
