use Rattle.scr_memory.proofs.FollowLaws as laws
use Rattle.scr_memory.proofs.laws.memory_laws.Goals as goal

pub returns : goal.returns
returns c = laws.memory_laws c.shown_pen_laws.ensures c.steps_keep_states.ensures c.grid_laws.ensures
