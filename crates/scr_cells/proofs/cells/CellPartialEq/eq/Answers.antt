use Rattle.std.proofs.Common.{rules}
use Rattle.scr_cells.proofs.cells.CellPartialEq.eq.Goals as goal

pub returns : goal.returns
returns c = search rules
