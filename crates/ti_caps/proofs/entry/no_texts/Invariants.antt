use Rattle.std.proofs.Common.{◌≡◌, replicate, None}
use Rattle.ti_caps.proofs.entry.no_texts.Given as goal

abbrev pub invariant-loop-filled : goal.invariant-loop-filled
invariant-loop-filled l = l.texts.items ≡ replicate l.filled None
