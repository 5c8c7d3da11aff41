use Rattle.scr_windows.proofs.LawLaws.{deleting}
use Rattle.scr_windows.proofs.laws.deleting_keeps_others.Goals as goal

pub returns : goal.returns
returns c = deleting
