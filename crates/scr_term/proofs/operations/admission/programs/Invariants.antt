use Rattle.std.proofs.Common.{◌≡◌, drop, map, take}
use Rattle.scr_term.specs.Operations.Admission.{first_where, is_bad_string, planned_program}
use Rattle.scr_term.proofs.operations.admission.programs.Given as goal

-- these are the programs so far, and the rest of the capabilities has the first bad text
abbrev pub invariant-loop-capability : goal.invariant-loop-capability
invariant-loop-capability l =
    (l.programs.items ≡ map (planned_program l.entry) (take l.capability-index l.capabilities))
    × (first_where (is_bad_string l.entry) (drop l.capability-index l.capabilities) ≡ first_where (is_bad_string l.entry) l.capabilities)
