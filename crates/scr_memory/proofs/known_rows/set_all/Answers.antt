use Rattle.std.proofs.Common.{◌∙◌, ap, arith, set}
use Rattle.scr_memory.proofs.RememberedRowLaws.{one_more}
use Rattle.scr_memory.proofs.known_rows.set_all.Goals as goal

pub loop-row-preserved : goal.loop-row-preserved
loop-row-preserved c = ap (λ xs. set xs c.loop-row.row c.args.known) c.loop-row.invariant ∙ one_more c.args.rows.now c.loop-row.row c.args.known (omega arith)
