use Rattle.std.proofs.lemmas.Grind.{common_steps}
use Rattle.std.proofs.Common.{arith, drop, length, take, ◌∙◌, ◌-◌}
use Rattle.scr_memory.proofs.FollowingLaws.{followed_on, same_columns, same_rows}
use Rattle.scr_memory.proofs.memories.Memory.follow_all.Goals as goal

pub loop-done-preserved : goal.loop-done-preserved
loop-done-preserved c = record {
  inside = omega arith;
  rows = same_rows c.args.profile.now (take c.follow_next-done.result (take (length c.args.ops.now - c.loop-done.done) (drop c.loop-done.done c.args.ops.now))) c.loop-done.self c.follow_next-done.new.self c.follow_next-done.ensures.followed ∙ c.loop-done.invariant.rows;
  columns = same_columns c.args.profile.now (take c.follow_next-done.result (take (length c.args.ops.now - c.loop-done.done) (drop c.loop-done.done c.args.ops.now))) c.loop-done.self c.follow_next-done.new.self c.follow_next-done.ensures.followed ∙ c.loop-done.invariant.columns;
  followed =
      followed_on c.args.profile.now c.args.ops.now c.loop-done.done c.follow_next-done.result c.args.self.now c.loop-done.self c.follow_next-done.new.self c.loop-done.invariant.followed c.follow_next-done.ensures.followed;
}

pub returns : goal.returns
returns c = grind (arith, common_steps)
