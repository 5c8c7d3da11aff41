use Rattle.scr_windows.proofs.LendingLaws.{is_lent}
use Rattle.scr_windows.proofs.lent.WindowRef.size.Goals as goal

pub returns-clause-lent : goal.returns-clause-lent
returns-clause-lent c = is_lent _ _ _ c.self.view_is c.self.invariant.0
