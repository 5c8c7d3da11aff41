use Rattle.scr_plan.proofs.ScratchLaws as laws
use Rattle.scr_plan.proofs.scratch_laws.scratch_is_bounded.Goals as goal

pub returns : goal.returns
returns c = laws.bounded
