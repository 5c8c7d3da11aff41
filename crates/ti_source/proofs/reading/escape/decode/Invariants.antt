use Rattle.std.proofs.Common.{◌≡◌, ◌++◌, length}
use Rattle.ti_source.specs.Reading.Escape.{decoded}
use Rattle.ti_source.proofs.reading.escape.decode.Given as goal

abbrev pub invariant-loop-rest : goal.invariant-loop-rest
invariant-loop-rest l = l.decoded.items ++ decoded l.rest ≡ decoded l.text

abbrev pub decreases-loop-rest : goal.decreases-loop-rest
decreases-loop-rest l = length l.rest
