use Rattle.scr_cells.proofs.MoveLaws.{places_moved_left}
use Rattle.scr_cells.proofs.grids.Grid.move_places_left.Goals as goal

pub returns : goal.returns
returns g c =
    places_moved_left c.args.element c.args.self.now _ _ c.args.row c.args.from c.args.end c.args.n _ c.columns-columns.ensures.grid c.requires.row c.requires.order c.requires.end c.saturating_sub-moved.ensures c.copy.ensures c.fill.ensures
