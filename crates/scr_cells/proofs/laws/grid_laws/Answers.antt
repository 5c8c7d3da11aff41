use Rattle.scr_cells.proofs.PlaceLaws.{the_laws}
use Rattle.scr_cells.proofs.laws.grid_laws.Goals as goal

pub returns : goal.returns
returns g c = the_laws _
