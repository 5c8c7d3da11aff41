use Rattle.std.proofs.Common.{rules}
use Rattle.scr_virtual.proofs.screens.Virtual.size.Goals as goal

pub returns-clause-rows : goal.returns-clause-rows
returns-clause-rows c = search rules

pub returns-clause-columns : goal.returns-clause-columns
returns-clause-columns c = search rules
