use Rattle.scr_cells.proofs.DifferenceLaws.{eight_same}
use Rattle.scr_cells.proofs.differences.same_eight.Goals as goal

pub returns : goal.returns
returns g c = eight_same g.T.Packed.coded c.args.a.now c.args.b.now c.args.at c.eight.result c.eight-2.result c.eight.ensures c.eight-2.ensures
