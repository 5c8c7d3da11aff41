use Rattle.std.proofs.Common.{◌≡◌, ◌≤◌, ◌-◌, length, take, true}
use Rattle.scr_memory.specs.Memories.{all_followed}
use Rattle.scr_memory.specs.Spares.{are_sure}
use Rattle.scr_memory.proofs.memories.Memory.follow_surely.Given as goal

-- the operations before one were sure, and were followed
abbrev pub invariant-loop-done : goal.invariant-loop-done
invariant-loop-done l = record {
  inside : l.done ≤ length l.ops;
  rows : l.self.rows ≡ l.fn.self.rows;
  columns : l.self.columns ≡ l.fn.self.columns;
  sure : are_sure l.profile (take l.done l.ops) l.fn.self ≡ true;
  followed : l.self ≡ all_followed l.profile (take l.done l.ops) l.fn.self;
}

abbrev pub decreases-loop-done : goal.decreases-loop-done
decreases-loop-done l = length l.ops - l.done
