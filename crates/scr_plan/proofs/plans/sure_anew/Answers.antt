use Rattle.std.proofs.Common.{false, subst, IfOk, ◌≡◌}
use Rattle.scr_plan.specs.Repaints.{anew_of}
use Rattle.scr_plan.proofs.PlanMadeLaws.{sure_plans}
use Rattle.scr_plan.proofs.PlanLaws.{whole_of}
use Rattle.scr_plan.proofs.plans.sure_anew.Goals as goal

pub returns : goal.returns
returns c =
    let profile = c.args.update.now.scene.profile.now in
    sure_plans c.plans_are_made.ensures profile c.size-profile.ensures.profile c.args.update.now.wanted.now c.size-wanted.ensures.screen.picture c.requires.update.fits c.args.update.now.memory.now
    (whole_of profile c.args.update.now.wanted.now.picture c.args.update.now.memory.now c.size-memory.ensures.memory c.requires.update.size c.requires.update.fits) false c.requires.due c.joined_anew.result
    (subst (λ picture. IfOk c.joined_anew.result (λ ops. ops ≡ anew_of profile picture)) c.requires.update.picture c.joined_anew.ensures)
