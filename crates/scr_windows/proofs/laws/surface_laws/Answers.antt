use Rattle.scr_windows.proofs.PlaceLaws.{the_laws}
use Rattle.scr_windows.proofs.laws.surface_laws.Goals as goal

pub returns : goal.returns
returns c = the_laws c.grid_laws.ensures
