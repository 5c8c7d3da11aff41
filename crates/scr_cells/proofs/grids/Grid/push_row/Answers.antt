use Rattle.scr_cells.proofs.BuiltLaws.{pushed}
use Rattle.scr_cells.proofs.grids.Grid.push_row.Goals as goal

pub returns-clause-ok : goal.returns-clause-ok
returns-clause-ok g c = pushed _ _ _ _ c.args.row.now _ c.self.view_is c.self.invariant c.requires.width c.in_ok-extend_from_slice.ensures.items
