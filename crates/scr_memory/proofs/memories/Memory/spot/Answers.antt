use Rattle.std.proofs.Common.{rules}
use Rattle.scr_memory.proofs.memories.Memory.spot.Goals as goal

pub returns-then-self-clause-value : goal.returns-then-self-clause-value
returns-then-self-clause-value c = search rules
