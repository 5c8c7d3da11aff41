use Rattle.std.proofs.Common.{◌≡◌, length, min, take}
use Rattle.ti_extended.specs.Forms.{joined}
use Rattle.ti_extended.proofs.writing.joined_size.Given as goal

abbrev pub invariant-loop-text : goal.invariant-loop-text
invariant-loop-text l = l.size ≡ min (length (joined (take l.text-index l.texts))) l.most
