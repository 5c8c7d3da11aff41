use Rattle.std.proofs.Common.{rules}
use Rattle.scr_windows.proofs.windows.Window.fresh.Goals as goal

pub returns : goal.returns
returns c = search rules
