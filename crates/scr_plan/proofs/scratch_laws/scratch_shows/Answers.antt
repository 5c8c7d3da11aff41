use Rattle.scr_plan.proofs.ScratchLaws as laws
use Rattle.scr_plan.proofs.scratch_laws.scratch_shows.Goals as goal

pub returns : goal.returns
returns c = laws.scratch_shows c.run_laws.ensures c.profiles_have.ensures c.place_is_painted.ensures c.grid_laws.ensures
