use Rattle.std.proofs.Common.{◌≡◌, drop}
use Rattle.ti_caps.specs.Settings.{flags_set}
use Rattle.ti_caps.proofs.bundle.set_flags.Given as goal

-- with the rest set too, the entry is what it will be
abbrev pub invariant-loop-slot : goal.invariant-loop-slot
invariant-loop-slot l =
    record l.entry { flags = flags_set l.entry.flags (drop l.slot-index l.flags) }
    ≡ record l.fn.entry { flags = flags_set l.fn.entry.flags l.flags }
