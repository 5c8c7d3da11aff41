use Rattle.std.proofs.Common.{rules}
use Rattle.scr_term.specs.Operations.Profiles.{has_colours}
use Rattle.scr_term.proofs.operations.making.has_colours.Goals as goal

pub returns-then-is_there-3 : goal.returns-then-is_there-3
unfolding has_colours
returns-then-is_there-3 c = search rules
