use Rattle.std.proofs.Common.{IfOk, false, subst, sym, ◌&&◌, ◌≡◌}
use Rattle.scr_memory.specs.Memories.{is_placed}
use Rattle.scr_plan.specs.Code.Planning.{AreChanges}
use Rattle.scr_plan.specs.Repaints.{IsSizeOf, differing, is_none_left, joined_of}
use Rattle.scr_plan.proofs.joined_changes.joined_by.Goals as goal

pub joined_from-requires-clause-size : goal.joined_from-requires-clause-size
joined_from-requires-clause-size c =
    let update = c.args.update.now in
    subst (λ picture. IsSizeOf picture update.memory.now) (sym c.requires.update.picture) c.requires.update.size

pub joined_from-requires-clause-changes : goal.joined_from-requires-clause-changes
joined_from-requires-clause-changes c =
    let update = c.args.update.now in
    subst (λ picture. AreChanges update.scene.profile.now picture update.memory.now c.args.changes.now picture.rows) (sym c.requires.update.picture) c.requires.changes

pub joined_from-requires-clause-some : goal.joined_from-requires-clause-some
joined_from-requires-clause-some c =
    let update = c.args.update.now in
    subst (λ picture. (is_none_left (differing update.scene.profile.now picture update.memory.now) && is_placed update.memory.now picture.wish) ≡ false) (sym c.requires.update.picture) c.requires.some

pub returns : goal.returns
returns c =
    let update = c.args.update.now in
    subst (λ picture. IfOk c.joined_from.result (λ ops. ops ≡ joined_of update.scene.profile.now update.memory.now picture)) c.requires.update.picture c.joined_from.ensures
