use Rattle.std.proofs.Common.{rules}
use Rattle.curses.proofs.screens.Screen.pad_noutrefresh.Goals as goal

pub returns : goal.returns
returns c = search rules
