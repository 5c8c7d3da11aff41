use Rattle.std.proofs.Common.{◌≡◌, take}
use Rattle.ti_caps.proofs.entry.copied.Given as goal

-- the texts so far
abbrev pub invariant-loop-text : goal.invariant-loop-text
invariant-loop-text l = l.copy.items ≡ take l.text-index l.texts
