use Rattle.std.proofs.Common.{◌∙◌, ap, arith, set}
use Rattle.scr_cells.proofs.GridLaws.{one_filled}
use Rattle.scr_cells.proofs.grids.fill_all.Goals as goal

pub loop-place-preserved : goal.loop-place-preserved
loop-place-preserved g c = ap (λ xs. set xs c.loop-place.place c.args.element) c.loop-place.invariant ∙ one_filled c.args.elements.now c.loop-place.place c.args.element (omega arith)
