use Rattle.std.proofs.Common.{rules}
use Rattle.scr_plan.specs.Code.Planning.{range_by}
use Rattle.scr_plan.proofs.ChangedRowLaws.{change_is}
use Rattle.scr_plan.proofs.scenes.Update.change_in.Goals as goal

pub returns-clause-some : goal.returns-clause-some
returns-clause-some c =
    let update = c.args.self.now in
    let looks = c.looks.result.now in
    change_is (range_by update.by) update.scene.profile.now update.memory.now update.wanted.now c.requires.update.same update.scene.painter c.requires.update.scene.painter c.args.row c.in_ok-from.from c.in_ok-from.last c.unlike_from-start.result looks
    c.requires.row (search rules) c.requires.known (search rules) c.looks.ensures.cells (search rules) (search rules) (search rules)
