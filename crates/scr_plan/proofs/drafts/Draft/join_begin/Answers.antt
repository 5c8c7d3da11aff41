use Rattle.std.proofs.Common.{refl, rules}
use Rattle.scr_plan.proofs.JoiningLaws.{begin_goes, counted}
use Rattle.scr_plan.proofs.drafts.Draft.join_begin.Goals as goal

pub returns-clause-all : goal.returns-clause-all
returns-clause-all c =
    begin_goes c.run_laws.ensures c.profiles_have.ensures _ c.size-size.ensures.profile _ c.size-picture.ensures.picture _ c.requires.scene.painter (c.args.to.now.row, c.args.to.now.column) c.requires.place c.args.to.now.pen c.requires.pen
    c.args.self.now c.count.new.self (counted c.args.scene.now.profile.now c.args.self.now _ c.count.new.self c.len-begun.result _ _ _ (search rules) c.in_ok-lead.ensures refl refl c.count.ensures)
