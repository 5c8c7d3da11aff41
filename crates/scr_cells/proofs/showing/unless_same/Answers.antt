use Rattle.std.proofs.Common.{bit_and, bit_or, refl}
use Rattle.std.specs.Simd.Lanes.{zip2}
use Rattle.scr_cells.proofs.LaneLaws.{eight_of, less, repeated, same_lanes}
use Rattle.scr_cells.proofs.showing.unless_same.Goals as goal

pub returns-clause-eight : goal.returns-clause-eight
returns-clause-eight c =
    eight_of bit_or (zip2 less c.args.a c.args.b) (zip2 bit_and c.args.b (repeated c.args.hidden)) (eight_of less c.args.a c.args.b c.requires.a c.requires.b) (eight_of bit_and c.args.b (repeated c.args.hidden) c.requires.b refl)

pub returns-clause-zero : goal.returns-clause-zero
returns-clause-zero c = λ k near. same_lanes c.args.a c.args.b c.args.hidden k c.requires.a c.requires.b c.fits-a.1 c.fits-b.1 near
