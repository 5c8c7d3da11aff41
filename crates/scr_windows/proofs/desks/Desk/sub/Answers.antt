use Rattle.std.proofs.Common.{rules}
use Rattle.scr_windows.specs.Calls.Subwindows.{sub_call}
use Rattle.scr_windows.proofs.desks.Desk.sub.Goals as goal

pub returns-clause-call : goal.returns-clause-call
unfolding sub_call
returns-clause-call c = search rules
