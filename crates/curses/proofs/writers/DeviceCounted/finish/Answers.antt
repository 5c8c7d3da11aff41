use Rattle.std.proofs.Common.{rules}
use Rattle.curses.proofs.writers.DeviceCounted.finish.Goals as goal

pub returns-clause-finishes : goal.returns-clause-finishes
returns-clause-finishes g c = search rules
