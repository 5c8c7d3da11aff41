use Rattle.std.proofs.Common.{◌≡◌, drop}
use Rattle.scr_term.specs.Operations.Admission.{first_where, is_over_bound}
use Rattle.scr_term.specs.Code.Admission.{program_in}
use Rattle.scr_term.proofs.operations.admission.first_long.Given as goal

-- the rest of the capabilities gives the answer
abbrev pub invariant-loop-capability : goal.invariant-loop-capability
invariant-loop-capability l = first_where (λ c. is_over_bound (program_in l.programs c)) (drop l.capability-index l.capabilities) ≡ first_where (λ c. is_over_bound (program_in l.programs c)) l.capabilities
