use Rattle.std.proofs.Common.{◌≡◌, drop}
use Rattle.ti_caps.specs.Settings.{numbers_set}
use Rattle.ti_caps.proofs.bundle.set_numbers.Given as goal

-- with the rest set too, the entry is what it will be
abbrev pub invariant-loop-slot : goal.invariant-loop-slot
invariant-loop-slot l =
    record l.entry { numbers = numbers_set l.entry.numbers (drop l.slot-index l.numbers) }
    ≡ record l.fn.entry { numbers = numbers_set l.fn.entry.numbers l.numbers }
