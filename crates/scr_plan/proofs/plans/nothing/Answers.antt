use Rattle.std.proofs.Common.{rules, subst, sym, [], ◌≡◌}
use Rattle.scr_plan.specs.Plans.{IsPlan}
use Rattle.scr_plan.proofs.PlanLaws.{never_plan}
use Rattle.scr_plan.proofs.plans.nothing.Goals as goal

pub returns : goal.returns
returns c =
    let none : c.new.result.items ≡ [] = search rules in
    subst (IsPlan c.args.update.now.scene.profile.now c.args.update.now.memory.now c.args.update.now.wanted.now) (sym none)
    (never_plan c.args.update.now.scene.profile.now c.args.update.now.memory.now c.args.update.now.wanted.now c.requires.due c.requires.pen)
