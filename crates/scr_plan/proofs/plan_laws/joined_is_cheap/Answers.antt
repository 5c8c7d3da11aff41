use Rattle.scr_plan.proofs.JoinedPriceLaws as laws
use Rattle.scr_plan.proofs.plan_laws.joined_is_cheap.Goals as goal

pub returns : goal.returns
returns c = laws.joined_is_cheap c.run_laws.ensures
