use Rattle.std.proofs.Common.{rules}
use Rattle.scr_plan.proofs.plans.plan.Goals as goal

pub plan_by-requires-clause-same : goal.plan_by-requires-clause-same
plan_by-requires-clause-same c = search rules
