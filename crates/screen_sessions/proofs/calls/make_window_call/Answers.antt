use Rattle.std.proofs.Common.{rules}
use Rattle.screen_sessions.proofs.calls.make_window_call.Goals as goal

pub returns-in_default : goal.returns-in_default
returns-in_default c = search rules
