use Rattle.std.proofs.Common.{rules}
use Rattle.scr_virtual.specs.Pairs.{set_pair_of_call}
use Rattle.scr_virtual.proofs.screens.Virtual.set_pair_of.Goals as goal

pub returns : goal.returns
unfolding set_pair_of_call
returns c = search rules
