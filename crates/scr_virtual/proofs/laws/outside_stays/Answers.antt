use Rattle.scr_virtual.proofs.LawLaws.{leaving}
use Rattle.scr_virtual.proofs.laws.outside_stays.Goals as goal

pub returns : goal.returns
returns c = leaving c.grid_laws.ensures
