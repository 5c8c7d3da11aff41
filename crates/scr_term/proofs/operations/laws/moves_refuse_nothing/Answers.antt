use Rattle.scr_term.proofs.LargerLaws.{refuse_nothing}
use Rattle.scr_term.proofs.operations.laws.moves_refuse_nothing.Goals as goal

pub returns : goal.returns
returns c = refuse_nothing c.moves_are_left_out.ensures
