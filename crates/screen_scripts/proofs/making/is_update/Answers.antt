use Rattle.std.proofs.Common.{rules}
use Rattle.screen_scripts.proofs.making.is_update.Goals as goal

pub returns-in_default : goal.returns-in_default
returns-in_default c = search rules
