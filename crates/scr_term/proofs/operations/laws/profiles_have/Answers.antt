use Rattle.scr_term.proofs.ProfileLaws.{profiles_have_hold}
use Rattle.scr_term.proofs.operations.laws.profiles_have.Goals as goal

pub returns : goal.returns
returns c = profiles_have_hold c.character_laws.ensures
