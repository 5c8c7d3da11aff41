use Rattle.std.proofs.Common.{rules}
use Rattle.scr_virtual.proofs.screens.Virtual.new.Goals as goal

pub returns : goal.returns
returns c = search rules
