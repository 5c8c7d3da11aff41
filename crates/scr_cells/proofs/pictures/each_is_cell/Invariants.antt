use Rattle.std.proofs.Common.{All, take}
use Rattle.scr_cells.specs.CellViews.{IsCell}
use Rattle.scr_cells.proofs.pictures.each_is_cell.Given as goal

abbrev pub invariant-loop-cell : goal.invariant-loop-cell
invariant-loop-cell l = All IsCell (take l.cell-index l.cells)
