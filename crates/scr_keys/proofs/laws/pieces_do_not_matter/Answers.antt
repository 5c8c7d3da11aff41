use Rattle.scr_keys.proofs.EventLaws as laws
use Rattle.scr_keys.proofs.laws.pieces_do_not_matter.Goals as goal

pub returns : goal.returns
returns c = laws.pieces
