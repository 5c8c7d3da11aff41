use Rattle.std.proofs.Common.{rules}
use Rattle.scr_virtual.proofs.taking.is_copied.Goals as goal

pub returns-else-all : goal.returns-else-all
returns-else-all c = search rules
