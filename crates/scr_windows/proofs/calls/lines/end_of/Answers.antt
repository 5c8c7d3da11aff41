use Rattle.std.proofs.Common.{rules}
use Rattle.scr_windows.proofs.calls.lines.end_of.Goals as goal

pub returns : goal.returns
returns c = search rules
