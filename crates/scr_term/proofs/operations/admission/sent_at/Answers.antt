use Rattle.std.proofs.Common.{rules}
use Rattle.scr_term.proofs.operations.admission.sent_at.Goals as goal

pub returns-then-is_empty-clause-text : goal.returns-then-is_empty-clause-text
returns-then-is_empty-clause-text c = search rules

pub returns-else-is_empty-clause-text : goal.returns-else-is_empty-clause-text
returns-else-is_empty-clause-text c = search rules
