use Rattle.std.proofs.Common.{rules}
use Rattle.scr_memory.proofs.memories.Memory.pen.Goals as goal

pub returns-then-self : goal.returns-then-self
returns-then-self c = search rules
