use Rattle.scr_memory.proofs.MemoryViewLaws.{all_kept}
use Rattle.scr_memory.proofs.memories.Memory.know_rows.Goals as goal

pub returns-else-not-self : goal.returns-else-not-self
returns-else-not-self c = all_kept _ c.args.self.now c.self.inside.all_rows c.self.view_is c.self.invariant c.if-not-self.false
