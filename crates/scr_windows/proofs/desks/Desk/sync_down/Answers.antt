use Rattle.std.proofs.Common.{rules}
use Rattle.scr_windows.specs.Calls.Syncing.{sync_down_call}
use Rattle.scr_windows.proofs.desks.Desk.sync_down.Goals as goal

pub returns-clause-call : goal.returns-clause-call
unfolding sync_down_call
returns-clause-call c = search rules
