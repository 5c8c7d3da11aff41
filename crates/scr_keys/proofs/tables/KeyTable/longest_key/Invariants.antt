use Rattle.std.proofs.Common.{◌≡◌, ◌≤◌, length}
use Rattle.scr_keys.specs.Keys.{longest}
use Rattle.scr_keys.proofs.tables.KeyTable.longest_key.Given as goal

abbrev pub invariant-loop-len : goal.invariant-loop-len
invariant-loop-len l = record {
  inside : l.len ≤ length l.bytes;
  same : longest l.self l.bytes (length l.bytes) ≡ longest l.self l.bytes l.len;
}

abbrev pub decreases-loop-len : goal.decreases-loop-len
decreases-loop-len l = l.len
