use Rattle.std.proofs.Common.{rules}
use Rattle.ti_binary.proofs.shapes.Shape.of.Goals as goal

pub returns : goal.returns
returns c = search rules
