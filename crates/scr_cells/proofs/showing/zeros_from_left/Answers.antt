use Rattle.scr_cells.proofs.LaneLaws.{few_zeros, zeros}
use Rattle.scr_cells.proofs.showing.zeros_from_left.Goals as goal

pub returns-clause-few : goal.returns-clause-few
returns-clause-few c = few_zeros c.args.numbers c.trailing_ones.result c.requires c.trailing_ones.ensures

pub returns-clause-zeros : goal.returns-clause-zeros
returns-clause-zeros c = zeros c.args.numbers c.trailing_ones.result c.requires c.trailing_ones.ensures
