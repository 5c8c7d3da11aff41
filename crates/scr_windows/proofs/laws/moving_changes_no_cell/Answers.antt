use Rattle.scr_windows.proofs.LawLaws.{moving}
use Rattle.scr_windows.proofs.laws.moving_changes_no_cell.Goals as goal

pub returns : goal.returns
returns c = moving
