use Rattle.std.proofs.Common.{rules, sym, ◌∙◌}
use Rattle.scr_plan.proofs.SureLaws.{begun_second, is_the_clear, is_the_reset}
use Rattle.scr_plan.proofs.checking.begins_with_both.Goals as goal

pub returns-clause-yes : goal.returns-clause-yes
returns-clause-yes c = λ yes. begun_second c.args.profile.now c.args.ops.now c.requires (search rules) (is_the_reset _ (sym c.is_reset.ensures ∙ c.if-not-is_reset.false)) (is_the_clear _ (sym c.is_clear.ensures ∙ yes))
