use Rattle.std.proofs.Common.{rules}
use Rattle.scr_memory.proofs.memories.Memory.learn_erased.Goals as goal

pub returns-in-EraseBelow : goal.returns-in-EraseBelow
returns-in-EraseBelow c = search rules
