use Rattle.std.proofs.Common.{rules, sym, ◌∙◌}
use Rattle.scr_plan.proofs.SureLaws.{begun_first, is_the_clear}
use Rattle.scr_plan.proofs.checking.begins_with_clear.Goals as goal

pub returns-clause-yes : goal.returns-clause-yes
returns-clause-yes c = λ yes. begun_first c.args.profile.now c.args.ops.now c.requires (search rules) (is_the_clear _ (sym c.is_clear.ensures ∙ yes))
