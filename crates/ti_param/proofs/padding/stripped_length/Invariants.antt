use Rattle.std.proofs.Common.{◌≡◌, ◌+◌, ◌-◌, ◌≤◌, ℕ, List, length, drop}
use Rattle.ti_param.specs.Padding.{Stripped}
use Rattle.ti_param.specs.Stripped.{stripped}
use Rattle.ti_param.proofs.padding.stripped_length.Given as goal

abbrev pub invariant-loop-index : goal.invariant-loop-index
invariant-loop-index l = record {
  counted : (result : List ℕ) → Stripped (drop l.index l.bytes) result → l.count + length result ≡ length (stripped l.bytes);
  inside : l.index ≤ length l.bytes;
  few : l.count ≤ l.index;
}

abbrev pub decreases-loop-index : goal.decreases-loop-index
decreases-loop-index l = length l.bytes - l.index
