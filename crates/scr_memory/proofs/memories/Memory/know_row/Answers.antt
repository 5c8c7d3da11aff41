use Rattle.scr_memory.proofs.MemoryViewLaws.{one_kept}
use Rattle.scr_memory.proofs.memories.Memory.know_row.Goals as goal

pub returns-then-self : goal.returns-then-self
returns-then-self c = one_kept _ c.args.self.now c.self.inside.all_rows c.args.row c.self.view_is c.self.invariant c.if-self.true
