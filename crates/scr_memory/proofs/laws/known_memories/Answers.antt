use Rattle.scr_memory.proofs.MemoryRunLaws as laws
use Rattle.scr_memory.proofs.laws.known_memories.Goals as goal

pub returns : goal.returns
returns c = laws.known_memories c.grid_laws.ensures
