use Rattle.scr_windows.specs.Code.Steps.{Changes}
use Rattle.scr_windows.proofs.ChangeLaws.{partly_exchanged}
use Rattle.scr_windows.proofs.surfaces.Surface.exchange.Given as goal

abbrev pub invariant-loop-row : goal.invariant-loop-row
invariant-loop-row l = Changes l.fn.self l.self l.area (partly_exchanged l.row l.old l.new)
