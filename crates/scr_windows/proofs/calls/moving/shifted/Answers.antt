use Rattle.std.proofs.Common.{rules}
use Rattle.scr_windows.proofs.calls.moving.shifted.Goals as goal

pub returns-in-Surface : goal.returns-in-Surface
returns-in-Surface c = search rules
