use Rattle.scr_memory.proofs.SureLaws.{spare_laws}
use Rattle.scr_memory.proofs.spares.spare_laws.Goals as goal

pub returns : goal.returns
returns c = spare_laws c.defined_laws.ensures c.memory_runs.ensures
