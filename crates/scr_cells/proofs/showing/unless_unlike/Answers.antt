use Rattle.scr_cells.proofs.LaneLaws.{eight_unlike, unlike_lanes}
use Rattle.scr_cells.proofs.showing.unless_unlike.Goals as goal

pub returns-clause-eight : goal.returns-clause-eight
returns-clause-eight c = eight_unlike c.args.a c.args.b c.args.kept c.args.base c.requires.a c.requires.b

pub returns-clause-zero : goal.returns-clause-zero
returns-clause-zero c = λ k near. unlike_lanes c.args.a c.args.b c.args.kept c.args.base k c.requires.a c.requires.b c.fits-b.1 c.ranges.base.fits near
