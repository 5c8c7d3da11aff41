use Rattle.scr_windows.proofs.LawLaws.{sharing}
use Rattle.scr_windows.proofs.laws.subwindows_share_cells.Goals as goal

pub returns : goal.returns
returns c = sharing
