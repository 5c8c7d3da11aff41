use Rattle.std.proofs.Common.{◌∙◌, ◌++◌}
use Rattle.edit_text.proofs.ReadingLaws.{lines_more}
use Rattle.edit_text.proofs.lines.append_lines.Goals as goal

pub loop-line-preserved : goal.loop-line-preserved
loop-line-preserved c = lines_more c.args.lines.now c.loop-line.line-index c.line-item.result c.args.bytes.now.items c.loop-line.bytes.items _ c.loop-line-test.true c.line-item.is c.loop-line.invariant (c.in_ok-extend_from_slice.ensures.items ∙ (λ k. c.in_ok-push.ensures.items k ++ (c.deref.ensures.value ∙ c.line.view_is) k))
