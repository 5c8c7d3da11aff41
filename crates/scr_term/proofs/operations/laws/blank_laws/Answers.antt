use Rattle.scr_term.proofs.StepLaws.{blank_laws_hold}
use Rattle.scr_term.proofs.operations.laws.blank_laws.Goals as goal

pub returns : goal.returns
returns c = blank_laws_hold
