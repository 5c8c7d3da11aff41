use Rattle.std.proofs.Common.{refl, rules}
use Rattle.scr_plan.proofs.JoiningLaws.{counted, erase_goes}
use Rattle.scr_plan.proofs.drafts.Draft.erase.Goals as goal

pub returns-clause-all : goal.returns-clause-all
returns-clause-all c =
    erase_goes c.run_laws.ensures _ c.size-size.ensures.profile c.requires.has c.args.self.now c.count.new.self c.args.row c.args.column c.requires.here c.requires.plain
    (counted c.args.profile.now c.args.self.now _ c.count.new.self c.len-begun.result _ _ _ (search rules) (search rules) refl refl c.count.ensures)
