use Rattle.std.proofs.Common.{◌++◌, ◌-◌, ◌≤◌, ℕ, List, length, drop}
use Rattle.ti_param.specs.Padding.{Stripped}
use Rattle.ti_param.proofs.padding.one_pass.Given as goal

abbrev pub invariant-loop-index : goal.invariant-loop-index
invariant-loop-index l =
    ((result : List ℕ) → Stripped (drop l.index l.bytes) result → Stripped l.bytes (l.text.items ++ result)) × (l.index ≤ length l.bytes)

abbrev pub decreases-loop-index : goal.decreases-loop-index
decreases-loop-index l = length l.bytes - l.index
