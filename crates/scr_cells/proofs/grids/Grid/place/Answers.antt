use Rattle.std.proofs.Common.{rules}
use Rattle.scr_cells.proofs.grids.Grid.place.Goals as goal

pub returns : goal.returns
returns g c = search rules
