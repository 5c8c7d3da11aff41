use Rattle.std.proofs.Common.{rules}
use Rattle.scr_windows.specs.Calls.Adding.{tab_added}
use Rattle.scr_windows.proofs.desks.Desk.add_tab.Goals as goal

pub returns-then-end-canvas-clause-added : goal.returns-then-end-canvas-clause-added
unfolding tab_added
returns-then-end-canvas-clause-added c = search rules

pub returns-clause-added : goal.returns-clause-added
unfolding tab_added
returns-clause-added c = search rules
