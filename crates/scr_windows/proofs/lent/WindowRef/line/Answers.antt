use Rattle.std.proofs.Common.{ap}
use Rattle.scr_windows.proofs.LendingLaws.{line_lent}
use Rattle.scr_windows.proofs.lent.WindowRef.line.Goals as goal

pub returns-clause-cells : goal.returns-clause-cells
returns-clause-cells c = line_lent _ _ _ _ c.args.row _ c.self.view_is (ap (λ f. f.area) c.frame.ensures) c.requires c.line.ensures.cells
