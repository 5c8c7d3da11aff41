use Rattle.scr_plan.proofs.RememberedPlanLaws as laws
use Rattle.scr_plan.proofs.plan_laws.up_to_date_laws.Goals as goal

pub returns : goal.returns
returns c = laws.up_to_date c.memory_runs.ensures
