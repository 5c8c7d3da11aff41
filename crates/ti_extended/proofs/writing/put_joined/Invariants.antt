use Rattle.std.proofs.Common.{◌≡◌, ◌++◌, take}
use Rattle.ti_extended.specs.Forms.{joined}
use Rattle.ti_extended.proofs.writing.put_joined.Given as goal

abbrev pub invariant-loop-text : goal.invariant-loop-text
invariant-loop-text l = l.out.items ≡ l.fn.out.items ++ joined (take l.text-index l.texts)
