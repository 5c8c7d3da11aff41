use Rattle.scr_plan.proofs.RememberedPlanLaws as laws
use Rattle.scr_plan.proofs.plan_laws.plans_are_remembered.Goals as goal

pub returns : goal.returns
returns c = laws.plans_are_remembered c.run_laws.ensures c.profiles_have.ensures c.memory_runs.ensures c.scratch_shows.ensures
