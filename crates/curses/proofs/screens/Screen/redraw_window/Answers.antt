use Rattle.std.proofs.Common.{rules}
use Rattle.curses.proofs.screens.Screen.redraw_window.Goals as goal

pub returns : goal.returns
returns c = search rules
