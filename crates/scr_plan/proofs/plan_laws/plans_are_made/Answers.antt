use Rattle.scr_plan.proofs.PlanMadeLaws as laws
use Rattle.scr_plan.proofs.plan_laws.plans_are_made.Goals as goal

pub returns : goal.returns
returns c = laws.plans_are_made c.joined_shows.ensures c.joined_is_cheap.ensures c.plans_are_remembered.ensures c.scratch_is_bounded.ensures c.memory_runs.ensures
