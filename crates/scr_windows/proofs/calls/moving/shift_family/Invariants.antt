use Rattle.std.proofs.Common.{◌≡◌, ◌++◌, map, take, drop}
use Rattle.scr_windows.proofs.FrameLaws.{reframed}
use Rattle.scr_windows.proofs.MovingLaws.{turn_of}
use Rattle.scr_windows.proofs.calls.moving.shift_family.Given as goal

abbrev pub invariant-loop-index : goal.invariant-loop-index
invariant-loop-index l = l.windows ≡ map (reframed (turn_of l.ancestor l.shift l.fn.windows)) (take l.index l.fn.windows) ++ drop l.index l.fn.windows
