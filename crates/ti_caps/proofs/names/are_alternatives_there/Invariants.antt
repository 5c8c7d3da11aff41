use Rattle.std.proofs.Common.{◌≡◌, length}
use Rattle.std.specs.List.{list_all}
use Rattle.ti_caps.specs.Names.{alternatives, has_bytes}
use Rattle.ti_caps.proofs.names.are_alternatives_there.Given as goal

-- the names that are left give the answer
abbrev pub invariant-loop-after : goal.invariant-loop-after
invariant-loop-after l = list_all has_bytes (alternatives l.rest) ≡ list_all has_bytes (alternatives l.names)

abbrev pub decreases-loop-after : goal.decreases-loop-after
decreases-loop-after l = length l.rest
