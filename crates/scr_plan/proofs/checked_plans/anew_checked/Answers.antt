use Rattle.std.proofs.Common.{arith, length, subst, ◌≤◌}
use Rattle.scr_cells.specs.PictureViews.{PictureView}
use Rattle.scr_term.specs.Operations.Texts.{all_bytes}
use Rattle.scr_plan.specs.Repaints.{anew_of}
use Rattle.scr_plan.proofs.checked_plans.anew_checked.Goals as goal

pub check-requires-clause-bound : goal.check-requires-clause-bound
check-requires-clause-bound c =
    let profile = c.args.update.now.scene.profile.now in
    let picture : PictureView = c.args.update.now.wanted.now.picture in
    let anew : c.in_ok-bytes.bytes ≤ length (all_bytes profile (anew_of profile picture)) = subst (λ picture. c.in_ok-bytes.bytes ≤ length (all_bytes profile (anew_of profile picture))) c.requires.update.picture c.in_ok-bytes.ensures in
    rw c.requires.due (omega (arith, anew, c.joined_is_cheap.ensures.anew profile picture))
