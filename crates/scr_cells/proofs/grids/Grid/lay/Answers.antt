use Rattle.std.proofs.Common.{arith}
use Rattle.scr_cells.proofs.GridLaws.{lent_run_is_put}
use Rattle.scr_cells.proofs.grids.Grid.lay.Goals as goal

pub returns : goal.returns
returns g c =
    lent_run_is_put _ _ c.self.inside.items _ c.copy_all.new.elements _ _ c.args.row c.args.from c.place-start.result _ c.self.view_is c.self.invariant c.requires.row c.requires.end c.deref_mut.ensures.value c.copy_all.ensures c.place-start.ensures (omega arith)
