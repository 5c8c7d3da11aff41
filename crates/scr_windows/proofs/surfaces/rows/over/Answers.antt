use Rattle.std.proofs.Common.{rules}
use Rattle.scr_windows.proofs.surfaces.rows.over.Goals as goal

pub returns-then-code-eq32 : goal.returns-then-code-eq32
returns-then-code-eq32 c = search rules

pub returns-else-code-eq32 : goal.returns-else-code-eq32
returns-else-code-eq32 c = search rules
