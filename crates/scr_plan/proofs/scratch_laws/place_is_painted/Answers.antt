use Rattle.scr_plan.proofs.PlaceLaws as laws
use Rattle.scr_plan.proofs.scratch_laws.place_is_painted.Goals as goal

pub returns : goal.returns
returns c = laws.place_is_painted c.run_laws.ensures c.profiles_have.ensures
