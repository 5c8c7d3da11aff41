use Rattle.std.proofs.Common.{rules}
use Rattle.scr_windows.specs.Calls.Scrolling.{scroll_call}
use Rattle.scr_windows.proofs.desks.Desk.scroll.Goals as goal

pub returns-then-n-gt0-clause-call : goal.returns-then-n-gt0-clause-call
unfolding scroll_call
returns-then-n-gt0-clause-call c = search rules

pub returns-then-n-lt0-clause-call : goal.returns-then-n-lt0-clause-call
unfolding scroll_call
returns-then-n-lt0-clause-call c = search rules
