use Rattle.std.proofs.Common.{arith, ◌∙◌}
use Rattle.scr_memory.proofs.FollowingLaws.{followed_on}
use Rattle.scr_memory.proofs.TryingLaws.{on_err, sure_on, unsure_on}
use Rattle.scr_memory.proofs.memories.Memory.follow_surely.Goals as goal

pub loop-done-preserved : goal.loop-done-preserved
loop-done-preserved c = record {
  inside = omega (arith, c.in_ok-done.ensures.inside, c.loop-done.invariant.inside);
  rows = c.follow_sure.ensures.rows ∙ c.loop-done.invariant.rows;
  columns = c.follow_sure.ensures.columns ∙ c.loop-done.invariant.columns;
  sure = sure_on c.args.profile.now c.args.ops.now c.loop-done.done c.in_ok-done.field-0 c.args.self.now c.loop-done.self c.loop-done.invariant.sure c.loop-done.invariant.followed c.in_ok-done.ensures.sure;
  followed = followed_on c.args.profile.now c.args.ops.now c.loop-done.done c.in_ok-done.field-0 c.args.self.now c.loop-done.self c.follow_sure.new.self c.loop-done.invariant.followed c.in_ok-done.ensures.followed;
}

pub returns-in_err-done-clause-unsure : goal.returns-in_err-done-clause-unsure
returns-in_err-done-clause-unsure c =
    on_err _ (unsure_on c.args.profile.now c.args.ops.now c.loop-done.done c.args.self.now c.loop-done.self c.loop-done.invariant.sure c.loop-done.invariant.followed c.in_err-done.ensures.unsure)
