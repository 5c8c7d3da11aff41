use Rattle.std.proofs.Common.{◌≡◌, ◌+◌, ◌-◌, ◌≤◌, length, drop}
use Rattle.ti_param.specs.Code.Padding.{leading_digits}
use Rattle.ti_param.proofs.padding.digits_at.Given as goal

abbrev pub invariant-loop-end : goal.invariant-loop-end
invariant-loop-end l =
    (l.index ≤ l.end) × (l.end - l.index ≤ length l.text) × (leading_digits (drop l.index l.text) + l.index ≡ leading_digits (drop l.end l.text) + l.end)

abbrev pub decreases-loop-end : goal.decreases-loop-end
decreases-loop-end l = length l.text - l.end
