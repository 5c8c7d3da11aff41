use Rattle.std.proofs.Common.{◌<◌, length}
use Rattle.std.specs.Prelude.{MatchOption}
use Rattle.scr_windows.specs.DeskViews.{IsDesk}
use Rattle.scr_windows.specs.Calls.Syncing.{ancestors, chain, frames_of, touched_down}
use Rattle.scr_windows.proofs.SyncLaws.{steps_left, Left}
use Rattle.scr_windows.proofs.desks.Desk.touch_down.Given as goal

-- the ancestors from one on are left
abbrev pub invariant-loop-above : goal.invariant-loop-above
invariant-loop-above l = record {
  desk : IsDesk l.self;
  here : l.index < length l.self.windows;
  before : MatchOption l.above (Unit {0}) (λ k. k < l.index);
  rest : Left l.above (λ most. touched_down (chain most (frames_of l.self) l.above) l.self l.index) (touched_down (ancestors l.fn.self l.index) l.fn.self l.index);
}

abbrev pub decreases-loop-above : goal.decreases-loop-above
decreases-loop-above l = steps_left l.above
