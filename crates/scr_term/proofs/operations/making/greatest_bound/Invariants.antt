use Rattle.std.proofs.Common.{◌≡◌, drop}
use Rattle.scr_term.specs.Code.Admission.{greatest_bound}
use Rattle.scr_term.proofs.operations.making.greatest_bound.Given as goal

-- the rest of the programs gives the answer
abbrev pub invariant-loop-program : goal.invariant-loop-program
invariant-loop-program l = greatest_bound l.greatest (drop l.program-index l.programs) ≡ greatest_bound l.fn.least l.programs
