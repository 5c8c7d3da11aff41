use Rattle.scr_term.proofs.StepLaws as laws
use Rattle.scr_term.proofs.operations.laws.steps_keep_states.Goals as goal

pub returns : goal.returns
returns c = laws.steps_keep_states
