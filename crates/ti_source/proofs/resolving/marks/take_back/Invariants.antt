use Rattle.ti_source.proofs.ChainLaws.{AreTakenBack}
use Rattle.ti_source.proofs.resolving.marks.take_back.Given as goal

abbrev pub invariant-loop-i : goal.invariant-loop-i
invariant-loop-i l = AreTakenBack l.i l.fn.marks l.marks
