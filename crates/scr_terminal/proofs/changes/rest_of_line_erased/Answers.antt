use Rattle.std.proofs.Common.{rules}
use Rattle.scr_terminal.proofs.changes.rest_of_line_erased.Goals as goal

pub returns-in-At-clause-value : goal.returns-in-At-clause-value
returns-in-At-clause-value c = search rules
