use Rattle.std.proofs.Common.{rules}
use Rattle.curses.proofs.screens.Screen.start.Goals as goal

pub returns-clause-ok : goal.returns-clause-ok
returns-clause-ok g c = search rules
