use Rattle.scr_cells.proofs.LaneLaws.{alike_lanes, eight_alike}
use Rattle.scr_cells.proofs.showing.unless_alike.Goals as goal

pub returns-clause-eight : goal.returns-clause-eight
returns-clause-eight c = eight_alike c.args.numbers c.args.base c.requires

pub returns-clause-zero : goal.returns-clause-zero
returns-clause-zero c = λ k near. alike_lanes c.args.numbers c.args.base k c.requires c.fits-numbers.1 c.ranges.base.fits near
