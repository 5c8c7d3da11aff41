use Rattle.ti_extended.proofs.resolving.FieldWalk.enter.Given as goal

abbrev pub decreases-loop-left : goal.decreases-loop-left
decreases-loop-left l = l.left
