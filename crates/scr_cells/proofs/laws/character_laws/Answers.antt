use Rattle.scr_cells.proofs.CharacterLaws.{the_laws}
use Rattle.scr_cells.proofs.laws.character_laws.Goals as goal

pub returns : goal.returns
returns c = the_laws
