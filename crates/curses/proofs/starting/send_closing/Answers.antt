use Rattle.std.proofs.Common.{rules}
use Rattle.curses.proofs.starting.send_closing.Goals as goal

pub returns-then-can_reset-clause-ok : goal.returns-then-can_reset-clause-ok
returns-then-can_reset-clause-ok g c = search rules
