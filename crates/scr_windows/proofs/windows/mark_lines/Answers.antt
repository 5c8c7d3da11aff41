use Rattle.std.proofs.Common.{arith, rules}
use Rattle.scr_windows.proofs.GridLaws.{marks_are}
use Rattle.scr_windows.proofs.windows.mark_lines.Goals as goal

pub returns : goal.returns
returns c = let inv = c.loop-line.invariant in
    marks_are c.args.first c.args.end c.args.mark c.args.touched.now c.loop-line.touched inv.len
    (λ k b h l. inv.put k h (omega arith)) (λ k h. inv.before k h) (λ k b h. grind (arith, inv.after k, inv.before k))

pub loop-line-preserved : goal.loop-line-preserved
loop-line-preserved c = search rules
