use Rattle.std.proofs.Common.{length, ◌-◌, ◌≡◌, ◌≤◌, [], take, vec_capacity, ◌*◌}
use Rattle.scr_term.specs.declared.operations.operation.Op.{Op}
use Rattle.scr_term.specs.Operations.Texts.{all_bytes, bytes_of}
use Rattle.curses.specs.Cuts.{IsCut}
use Rattle.curses.proofs.sending.send_operations.Given as goal

abbrev pub invariant-loop-begun : goal.invariant-loop-begun
invariant-loop-begun g l = record {
  begun : l.begun ≤ length l.ops;
  few : l.bytes ≤ l.begun * 2048;
  nothing : l.waiting.items ≡ [];
  room : vec_capacity l.fn.waiting ≤ vec_capacity l.waiting;
  longest : (op : Op) → length (bytes_of l.profile op) ≤ 2048;
  cut : IsCut [] (all_bytes l.profile (take l.begun l.ops)) (g.W.Counted.told l.fn.out).taken (g.W.Counted.told l.out).taken l.bytes [];
  failed_puts : (g.W.Counted.told l.out).failed_puts ≡ (g.W.Counted.told l.fn.out).failed_puts;
  finishes : (g.W.Counted.told l.out).finishes ≡ (g.W.Counted.told l.fn.out).finishes;
}

abbrev pub decreases-loop-begun : goal.decreases-loop-begun
decreases-loop-begun g l = length l.ops - l.begun
