use Rattle.std.proofs.Common.{rules}
use Rattle.scr_terminal.proofs.changes.characters_erased.Goals as goal

pub returns-in-At-clause-value : goal.returns-in-At-clause-value
returns-in-At-clause-value c = search rules

pub returns-in-At-clause-change : goal.returns-in-At-clause-change
returns-in-At-clause-change c = search rules
