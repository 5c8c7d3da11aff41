use Rattle.std.proofs.Common.{length, ◌-◌, ◌≡◌, ◌≤◌, take}
use Rattle.std.specs.Io.KnownBytes.{Appends}
use Rattle.terminal.proofs.cursors.send.Given as goal

abbrev pub invariant-loop-sent : goal.invariant-loop-sent
invariant-loop-sent g l = record {
  inside : l.sent ≤ length l.text;
  taken : Appends (g.W.Counted.told l.fn.out).taken (g.W.Counted.told l.out).taken (take l.sent l.text);
  puts : (g.W.Counted.told l.out).failed_puts ≡ (g.W.Counted.told l.fn.out).failed_puts;
  finishes : (g.W.Counted.told l.out).finishes ≡ (g.W.Counted.told l.fn.out).finishes;
}

abbrev pub decreases-loop-sent : goal.decreases-loop-sent
decreases-loop-sent g l = length l.text - l.sent
