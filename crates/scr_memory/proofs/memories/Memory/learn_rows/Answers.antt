use Rattle.std.proofs.Common.{rules}
use Rattle.scr_memory.proofs.memories.Memory.learn_rows.Goals as goal

pub returns-else-loses_rows : goal.returns-else-loses_rows
returns-else-loses_rows c = search rules
