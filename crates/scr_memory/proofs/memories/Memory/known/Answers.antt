use Rattle.std.proofs.Common.{rules}
use Rattle.scr_memory.proofs.memories.Memory.known.Goals as goal

pub returns-then-self-2 : goal.returns-then-self-2
returns-then-self-2 c = search rules
