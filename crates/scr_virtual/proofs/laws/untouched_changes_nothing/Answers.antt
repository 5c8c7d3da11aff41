use Rattle.scr_virtual.proofs.LawLaws.{changing_nothing}
use Rattle.scr_virtual.proofs.laws.untouched_changes_nothing.Goals as goal

pub returns : goal.returns
returns c = changing_nothing c.grid_laws.ensures
