use Rattle.scr_plan.proofs.JoiningLaws.{may_reset}
use Rattle.scr_plan.proofs.checked_plans.paint_checked.Goals as goal

pub bytes_of_joined-requires-clause-pen : goal.bytes_of_joined-requires-clause-pen
bytes_of_joined-requires-clause-pen c = may_reset _ (c.profiles_have.ensures _ c.size-profile.ensures.profile) _ c.requires.pen
