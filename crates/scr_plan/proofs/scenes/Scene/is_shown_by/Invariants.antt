use Rattle.std.proofs.Common.{ℕ, ◌<◌}
use Rattle.scr_plan.specs.Checks.{ShowsMarkedIn}
use Rattle.scr_plan.proofs.scenes.Scene.is_shown_by.Given as goal

-- the rows before one show the picture where they are marked
abbrev pub invariant-loop-row : goal.invariant-loop-row
invariant-loop-row l = (r : ℕ) → r < l.row → ShowsMarkedIn l.self.profile.now l.spare l.self.picture.now r
