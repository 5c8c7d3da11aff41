use Rattle.std.proofs.Common.{rules}
use Rattle.scr_term.proofs.operations.capability.Capability.slot.Goals as goal

pub returns-in-Cuf1 : goal.returns-in-Cuf1
returns-in-Cuf1 c = search rules
