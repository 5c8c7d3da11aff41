use Rattle.std.proofs.Common.{◌≡◌, ℕ, ◌-◌, ◌^◌, ◌≤◌, min, length, drop}
use Rattle.ti_param.specs.Code.Tokens.{digits}
use Rattle.ti_param.proofs.tokens.digits.Given as goal

abbrev pub invariant-loop-index : goal.invariant-loop-index
invariant-loop-index l =
    (n : ℕ) × (l.value ≡ min n (2 ^ 32 - 1)) × (digits n (drop l.index l.text) ≡ digits 0 l.text) × (l.index ≤ length l.text)

abbrev pub decreases-loop-index : goal.decreases-loop-index
decreases-loop-index l = length l.text - l.index
