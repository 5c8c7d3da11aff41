use Rattle.std.proofs.Common.{refl, rules}
use Rattle.scr_plan.proofs.JoiningLaws.{counted, reset_goes}
use Rattle.scr_plan.proofs.drafts.Draft.reset.Goals as goal

pub returns-clause-all : goal.returns-clause-all
returns-clause-all c =
    reset_goes c.run_laws.ensures c.profiles_have.ensures _ c.size-size.ensures.profile _ c.requires.scene.painter c.args.self.now c.count.new.self c.plain.result
    (counted c.args.scene.now.profile.now c.args.self.now _ c.count.new.self c.len-begun.result _ _ _ (search rules) c.in_ok-reset_unless_plain.ensures refl refl c.count.ensures) c.plain.ensures
