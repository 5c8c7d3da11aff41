use Rattle.std.proofs.Common.{◌≡◌, ◌≤◌, ◌+◌, ◌-◌, ◌++◌, length, take, drop, vec_capacity}
use Rattle.scr_keys.specs.Keys.{keys_read, bytes_left, longest_text}
use Rattle.scr_keys.proofs.readers.decide.Given as goal

abbrev pub invariant-loop-start : goal.invariant-loop-start
invariant-loop-start l = record {
  inside : l.start ≤ length l.bytes;
  keys : l.queue.items ++ keys_read l.more l.table 0 (drop l.start l.bytes) ≡ l.fn.queue.items ++ keys_read l.more l.table 0 l.bytes;
  left : bytes_left l.more l.table 0 (drop l.start l.bytes) ≡ bytes_left l.more l.table 0 l.bytes;
  kept : take (length l.fn.queue.items) l.queue.items ≡ l.fn.queue.items;
  longer : length l.fn.queue.items ≤ length l.queue.items;
  few : length l.queue.items ≤ 16 + longest_text l.table;
  capacity : vec_capacity l.queue ≡ vec_capacity l.fn.queue;
}

abbrev pub decreases-loop-start : goal.decreases-loop-start
decreases-loop-start l = length l.bytes - l.start
