use Rattle.std.proofs.Common.{◌≡◌, ◌++◌, map, take}
use Rattle.scr_term.specs.Operations.Admission.{spare_program}
use Rattle.scr_term.proofs.operations.spares.with_spares.Given as goal

-- behind the first programs there are these so far
abbrev pub invariant-loop-capability : goal.invariant-loop-capability
invariant-loop-capability l = l.all.items ≡ l.fn.programs.items ++ map (spare_program l.entry) (take l.capability-index l.capabilities)
