use Rattle.scr_virtual.proofs.LawLaws.{holding}
use Rattle.scr_virtual.proofs.laws.ranges_hold_changes.Goals as goal

pub returns : goal.returns
returns c = holding c.grid_laws.ensures
