use Rattle.std.proofs.Common.{rules}
use Rattle.scr_windows.proofs.calls.scrolling.lines_from.Goals as goal

pub returns-clause-first : goal.returns-clause-first
returns-clause-first c = search rules
