use Rattle.scr_plan.proofs.PlanMadeLaws as laws
use Rattle.scr_plan.proofs.plan_laws.plan_is_cheap.Goals as goal

pub returns : goal.returns
returns c = laws.plan_is_cheap c.joined_is_cheap.ensures
