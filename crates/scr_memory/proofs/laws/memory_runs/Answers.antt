use Rattle.scr_memory.proofs.MemoryRunLaws as laws
use Rattle.scr_memory.proofs.laws.memory_runs.Goals as goal

pub returns : goal.returns
returns c = laws.memory_runs c.blank_laws.ensures c.memory_laws.ensures
