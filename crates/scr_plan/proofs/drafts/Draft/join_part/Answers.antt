use Rattle.std.proofs.Common.{arith, option_map}
use Rattle.scr_plan.proofs.JoinedRowLaws.{part_goes}
use Rattle.scr_plan.proofs.drafts.Draft.join_part.Goals as goal

pub loop-column-preserved : goal.loop-column-preserved
loop-column-preserved c = record {
  from = omega (arith, c.loop-column.invariant.from, c.in_ok-column.ensures.more);
  end = c.in_ok-column.ensures.end;
  left = c.in_ok-column.ensures.left;
  after = c.in_ok-column.ensures.after;
  all =
      part_goes c.args.scene.now.profile.now c.args.scene.now.painter c.args.scene.now.picture.now (option_map (λ looks. looks.now) c.args.line.now.before) c.args.line.now.row c.args.from c.loop-column.column c.in_ok-column.field-0-0 c.args.self.now c.loop-column.self c.join_next.new.self
      c.loop-column.invariant.from c.in_ok-column.ensures.more c.loop-column.invariant.all c.in_ok-column.ensures.all;
}
