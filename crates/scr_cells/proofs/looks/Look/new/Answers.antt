use Rattle.std.proofs.Common.{rules}
use Rattle.scr_cells.proofs.looks.Look.new.Goals as goal

pub returns-clause-holds : goal.returns-clause-holds
returns-clause-holds c = search rules
