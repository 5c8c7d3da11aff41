use Rattle.scr_windows.proofs.KeepingLaws.{resizing}
use Rattle.scr_windows.proofs.laws.resizing_keeps_others.Goals as goal

pub returns : goal.returns
returns c = resizing
