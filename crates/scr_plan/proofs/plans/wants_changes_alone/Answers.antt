use Rattle.std.proofs.Common.{rules}
use Rattle.scr_plan.proofs.plans.wants_changes_alone.Goals as goal

pub returns-then-known-clause-value : goal.returns-then-known-clause-value
returns-then-known-clause-value c = search rules
