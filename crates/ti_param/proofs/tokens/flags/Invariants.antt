use Rattle.std.proofs.Common.{◌≡◌, ◌-◌, ◌≤◌, length, drop}
use Rattle.ti_param.specs.Code.Tokens.{flags}
use Rattle.ti_param.specs.Numbers.{plain}
use Rattle.ti_param.proofs.tokens.flags.Given as goal

abbrev pub invariant-loop-index : goal.invariant-loop-index
invariant-loop-index l =
    (flags l.colon l.format (drop l.index l.text) ≡ flags l.colon plain l.text) × (l.index ≤ length l.text)

abbrev pub decreases-loop-index : goal.decreases-loop-index
decreases-loop-index l = length l.text - l.index
