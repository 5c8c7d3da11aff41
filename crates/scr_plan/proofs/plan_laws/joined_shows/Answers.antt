use Rattle.scr_plan.proofs.JoinedLaws as laws
use Rattle.scr_plan.proofs.plan_laws.joined_shows.Goals as goal

pub returns : goal.returns
returns c = laws.joined_shows c.run_laws.ensures c.blank_laws.ensures c.profiles_have.ensures c.place_is_painted.ensures c.grid_laws.ensures c.known_memories.ensures
