use Rattle.std.proofs.Common.{rules}
use Rattle.scr_term.proofs.operations.admission.is_over_bound.Goals as goal

pub returns-in-Some : goal.returns-in-Some
returns-in-Some c = search rules
