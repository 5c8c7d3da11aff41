use Rattle.std.proofs.Common.{rules}
use Rattle.scr_windows.proofs.drawing.lines_of.Goals as goal

pub returns-in-Below : goal.returns-in-Below
returns-in-Below c = search rules
