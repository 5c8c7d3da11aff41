use Rattle.std.proofs.Common.{rules}
use Rattle.scr_term.proofs.operations.profiles.Profile.can_reset.Goals as goal

pub returns : goal.returns
returns c = search rules
