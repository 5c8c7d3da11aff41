use Rattle.scr_term.proofs.StepLaws.{run_laws_hold}
use Rattle.scr_term.proofs.operations.laws.run_laws.Goals as goal

pub returns : goal.returns
returns c = run_laws_hold c.character_laws.ensures
