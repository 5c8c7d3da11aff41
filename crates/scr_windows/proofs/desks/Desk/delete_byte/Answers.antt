use Rattle.std.proofs.Common.{rules}
use Rattle.scr_windows.specs.Calls.Scrolling.{delete_byte_call}
use Rattle.scr_windows.proofs.desks.Desk.delete_byte.Goals as goal

pub returns-clause-call : goal.returns-clause-call
unfolding delete_byte_call
returns-clause-call c = search rules
