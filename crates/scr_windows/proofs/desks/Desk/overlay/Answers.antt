use Rattle.std.proofs.Common.{rules}
use Rattle.scr_windows.proofs.desks.Desk.overlay.Goals as goal

pub returns-clause-call : goal.returns-clause-call
returns-clause-call c = search rules
