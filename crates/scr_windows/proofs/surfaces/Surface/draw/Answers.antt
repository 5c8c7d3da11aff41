use Rattle.std.proofs.Common.{rules}
use Rattle.scr_windows.proofs.surfaces.Surface.draw.Goals as goal

pub returns-in-Rows : goal.returns-in-Rows
returns-in-Rows c = search rules

pub returns-in-Up : goal.returns-in-Up
returns-in-Up c = search rules
