use Rattle.std.proofs.Common.{rules}
use Rattle.scr_term.proofs.operations.admission.program_at.Goals as goal

pub returns-in-Some-program-clause-judged : goal.returns-in-Some-program-clause-judged
returns-in-Some-program-clause-judged c = search rules
