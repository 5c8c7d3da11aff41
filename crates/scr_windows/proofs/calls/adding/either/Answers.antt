use Rattle.std.proofs.Common.{rules}
use Rattle.scr_windows.proofs.calls.adding.either.Goals as goal

pub returns-in-Stayed : goal.returns-in-Stayed
returns-in-Stayed c = search rules
