use Rattle.std.proofs.Common.{rules}
use Rattle.scr_term.proofs.operations.profiles.Profile.is_within.Goals as goal

pub returns-in-Line : goal.returns-in-Line
returns-in-Line c = search rules
