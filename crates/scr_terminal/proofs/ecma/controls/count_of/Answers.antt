use Rattle.std.proofs.Common.{rules}
use Rattle.scr_terminal.proofs.ecma.controls.count_of.Goals as goal

pub returns-then-count-ge1-clause-value : goal.returns-then-count-ge1-clause-value
returns-then-count-ge1-clause-value c = search rules
