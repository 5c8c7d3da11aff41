use Rattle.std.proofs.Common.{◌≡◌, length, map}
use Rattle.ti_extended.specs.Distinct.{differ_in_turn}
use Rattle.ti_extended.proofs.distinct.differ_in_turn.Given as goal

-- what is left decides
abbrev pub invariant-loop-rest : goal.invariant-loop-rest
invariant-loop-rest l = differ_in_turn (map (λ name. name.now) l.rest) ≡ differ_in_turn (map (λ name. name.now) l.names)

abbrev pub decreases-loop-rest : goal.decreases-loop-rest
decreases-loop-rest l = length l.rest
