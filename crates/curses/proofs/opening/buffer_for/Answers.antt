use Rattle.std.proofs.Common.{rules}
use Rattle.curses.proofs.opening.buffer_for.Goals as goal

pub returns-clause-room : goal.returns-clause-room
returns-clause-room c = search rules
