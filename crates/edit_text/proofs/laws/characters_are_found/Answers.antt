use Rattle.edit_text.proofs.PartLaws.{occur_between}
use Rattle.edit_text.proofs.laws.characters_are_found.Goals as goal

pub returns : goal.returns
returns c = occur_between
