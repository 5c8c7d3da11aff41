use Rattle.std.proofs.Common.{refl}
use Rattle.scr_cells.proofs.GridLaws.{one_is_put}
use Rattle.scr_cells.proofs.grids.Grid.put.Goals as goal

pub returns : goal.returns
returns g c = one_is_put _ _ _ _ _ c.args.row c.args.column c.place-place.result c.args.element c.self.view_is c.self.invariant c.requires.row c.requires.column c.place-place.ensures refl
