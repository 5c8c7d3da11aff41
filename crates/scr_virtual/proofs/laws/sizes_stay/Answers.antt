use Rattle.scr_virtual.proofs.LawLaws.{keeping}
use Rattle.scr_virtual.proofs.laws.sizes_stay.Goals as goal

pub returns : goal.returns
returns c = keeping
