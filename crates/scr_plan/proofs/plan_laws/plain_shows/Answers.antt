use Rattle.scr_plan.proofs.PlainLaws as laws
use Rattle.scr_plan.proofs.plan_laws.plain_shows.Goals as goal

pub returns : goal.returns
returns c = laws.plain_shows c.run_laws.ensures c.profiles_have.ensures c.place_is_painted.ensures c.grid_laws.ensures
