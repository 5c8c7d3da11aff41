use Rattle.std.proofs.Common.{take}
use Rattle.ti_source.proofs.EffectiveLaws.{Sifted}
use Rattle.ti_source.proofs.resolving.first_fields.effective_fields.Given as goal

-- those of the first i fields that take effect are there
abbrev pub invariant-loop-i : goal.invariant-loop-i
invariant-loop-i l = Sifted (take l.i l.fields) l.marks.items l.found
