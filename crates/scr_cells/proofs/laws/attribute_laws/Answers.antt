use Rattle.std.proofs.Common.{rules}
use Rattle.scr_cells.proofs.laws.attribute_laws.Goals as goal

pub returns-clause-each : goal.returns-clause-each
returns-clause-each c = search rules
