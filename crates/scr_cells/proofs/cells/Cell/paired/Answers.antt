use Rattle.std.proofs.Common.{rules}
use Rattle.scr_cells.proofs.cells.Cell.paired.Goals as goal

pub invariant_of-result : goal.invariant_of-result
invariant_of-result c = search rules

pub returns-clause-fits : goal.returns-clause-fits
returns-clause-fits c = search rules
