use Rattle.std.proofs.Common.{◌≡◌, ◌++◌, replicate}
use Rattle.ti_extended.proofs.writing.put_flags.Given as goal

abbrev pub invariant-loop-filled : goal.invariant-loop-filled
invariant-loop-filled l = l.out.items ≡ l.fn.out.items ++ replicate l.filled 1
