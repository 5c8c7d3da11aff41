use Rattle.ti_caps.proofs.MovesLaws.{moves_laws}
use Rattle.ti_caps.proofs.adapted.moves_are_left_out.Goals as goal

pub returns : goal.returns
returns c = moves_laws
