use Rattle.std.proofs.Common.{◌≡◌, ◌++◌, filter, length, map}
use Rattle.ti_caps.specs.Names.{alternatives, has_no_blank, reference_names}
use Rattle.ti_compile.proofs.file_names.reference_names.Given as goal

-- the names so far and those of the alternatives that are left
abbrev pub invariant-loop-found : goal.invariant-loop-found
invariant-loop-found l = map (λ name. name.now) l.found.items ++ filter has_no_blank (alternatives l.rest) ≡ reference_names l.names

abbrev pub decreases-loop-found : goal.decreases-loop-found
decreases-loop-found l = length l.rest
