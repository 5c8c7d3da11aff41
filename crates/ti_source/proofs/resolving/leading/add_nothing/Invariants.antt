use Rattle.ti_source.specs.Code.Leading.{AddSoFar}
use Rattle.ti_source.proofs.resolving.leading.add_nothing.Given as goal

-- those so far add nothing
abbrev pub invariant-loop-k : goal.invariant-loop-k
invariant-loop-k l = AddSoFar l.entries l.uses l.k l.fields
