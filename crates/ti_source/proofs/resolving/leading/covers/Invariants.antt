use Rattle.std.proofs.Common.{take}
use Rattle.ti_source.specs.Code.Leading.{Covers}
use Rattle.ti_source.proofs.resolving.leading.covers.Given as goal

-- those so far are covered
abbrev pub invariant-loop-i : goal.invariant-loop-i
invariant-loop-i l = Covers l.fields (take l.i l.more)
