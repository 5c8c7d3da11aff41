use Rattle.scr_cells.proofs.GridLaws.{grid_is}
use Rattle.scr_cells.proofs.grids.Grid.columns.Goals as goal

pub returns-clause-grid : goal.returns-clause-grid
returns-clause-grid g c = grid_is _ _ _ _ c.self.view_is c.self.invariant
