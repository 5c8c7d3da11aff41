use Rattle.std.proofs.Common.{◌≡◌, ◌&&◌, ltb}
use Rattle.scr_windows.specs.DeskViews.{window_at}
use Rattle.scr_windows.specs.Changes.{with_window}
use Rattle.scr_windows.specs.Calls.Syncing.{touched_at, with_touched}
use Rattle.scr_windows.proofs.desks.Desk.touch_shared.Given as goal

-- the lines in the surface's rows before one are touched
abbrev pub invariant-loop-row : goal.invariant-loop-row
invariant-loop-row l = l.self ≡ with_window l.fn.self l.to (with_touched (λ y. ltb y l.row && touched_at (window_at l.fn.self l.from) y) (window_at l.fn.self l.to))
