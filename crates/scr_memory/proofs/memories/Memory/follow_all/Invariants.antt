use Rattle.std.proofs.Common.{◌≡◌, ◌≤◌, ◌-◌, length, take}
use Rattle.scr_memory.specs.Memories.{all_followed}
use Rattle.scr_memory.proofs.memories.Memory.follow_all.Given as goal

-- the operations before one were followed
abbrev pub invariant-loop-done : goal.invariant-loop-done
invariant-loop-done l = record {
  inside : l.done ≤ length l.ops;
  rows : l.self.rows ≡ l.fn.self.rows;
  columns : l.self.columns ≡ l.fn.self.columns;
  followed : l.self ≡ all_followed l.profile (take l.done l.ops) l.fn.self;
}

abbrev pub decreases-loop-done : goal.decreases-loop-done
decreases-loop-done l = length l.ops - l.done
