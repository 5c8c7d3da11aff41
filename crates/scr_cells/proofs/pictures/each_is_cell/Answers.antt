use Rattle.std.proofs.Common.{All, arith, subst}
use Rattle.std.proofs.lemmas.List.{take_all}
use Rattle.std.proofs.lemmas.List.Elements.{All-more}
use Rattle.scr_cells.specs.CellViews.{IsCell}
use Rattle.scr_cells.proofs.pictures.each_is_cell.Goals as goal

pub loop-cell-preserved : goal.loop-cell-preserved
loop-cell-preserved c = All-more IsCell _ _ c.cell-item.result c.loop-cell-test.true c.loop-cell.invariant (subst IsCell c.cell-item.is c.pair-pair.ensures.cell)

pub returns : goal.returns
returns c = subst (All IsCell) (take_all c.loop-cell.cell-index c.args.cells.now (omega arith)) c.loop-cell.invariant
