use Rattle.std.proofs.Common.{◌≡◌, drop}
use Rattle.scr_term.specs.Operations.Admission.{first_where}
use Rattle.scr_term.specs.Operations.Admission.{is_missing}
use Rattle.scr_term.proofs.operations.admission.first_missing.Given as goal

-- the rest of the capabilities gives the answer
abbrev pub invariant-loop-capability : goal.invariant-loop-capability
invariant-loop-capability l = first_where (is_missing l.entry) (drop l.capability-index l.capabilities) ≡ first_where (is_missing l.entry) l.capabilities
