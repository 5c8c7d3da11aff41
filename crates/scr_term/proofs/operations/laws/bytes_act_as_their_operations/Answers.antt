use Rattle.scr_term.proofs.Ecma48Laws.{is_profile}
use Rattle.scr_term.proofs.RunTextLaws.{runs_act}
use Rattle.scr_term.proofs.operations.laws.bytes_act_as_their_operations.Goals as goal

pub returns : goal.returns
returns c = runs_act c.bytes_act_as_their_operation.ensures is_profile
