use Rattle.std.proofs.Common.{rules}
use Rattle.scr_cells.proofs.cells.Cell.exchanged.Goals as goal

pub returns : goal.returns
returns c = search rules
