use Rattle.std.proofs.Common.{◌≡◌, ◌++◌, map, take, drop}
use Rattle.scr_windows.proofs.FrameLaws.{reframed}
use Rattle.scr_windows.proofs.RemovingLaws.{frame_moved}
use Rattle.scr_windows.proofs.calls.removing.close_gap.Given as goal

abbrev pub invariant-loop-index : goal.invariant-loop-index
invariant-loop-index l = l.windows ≡ map (reframed (frame_moved l.gone)) (take l.index l.fn.windows) ++ drop l.index l.fn.windows
