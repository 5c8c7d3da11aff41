use Rattle.std.proofs.Common.{rules}
use Rattle.scr_memory.proofs.memories.Memory.forget_spot_and_pen.Goals as goal

pub returns : goal.returns
returns c = search rules
