use Rattle.edit_text.proofs.ByteLaws.{edits_change_one_part}
use Rattle.edit_text.proofs.laws.edits_change_one_part.Goals as goal

pub returns : goal.returns
returns c = edits_change_one_part
