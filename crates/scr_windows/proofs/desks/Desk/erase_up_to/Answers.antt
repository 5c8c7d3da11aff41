use Rattle.std.proofs.Common.{rules}
use Rattle.scr_windows.proofs.desks.Desk.erase_up_to.Goals as goal

pub returns-clause-erased : goal.returns-clause-erased
returns-clause-erased c = search rules
