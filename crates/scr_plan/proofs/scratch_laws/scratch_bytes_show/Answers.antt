use Rattle.scr_plan.proofs.ScratchLaws as laws
use Rattle.scr_plan.proofs.scratch_laws.scratch_bytes_show.Goals as goal

pub returns : goal.returns
returns c = laws.scratch_bytes_show c.scratch_shows.ensures c.ecma48_laws.ensures c.bytes_act_as_their_operations.ensures
