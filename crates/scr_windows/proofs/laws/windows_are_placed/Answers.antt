use Rattle.scr_windows.proofs.LawLaws.{placing}
use Rattle.scr_windows.proofs.laws.windows_are_placed.Goals as goal

pub returns : goal.returns
returns c = placing
