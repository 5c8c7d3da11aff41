use Rattle.scr_plan.specs.Code.Planning.{AreChanges}
use Rattle.scr_plan.proofs.scenes.Scene.find_all.Given as goal

-- as far as the loop has come
abbrev pub invariant-loop-row : goal.invariant-loop-row
invariant-loop-row l = AreChanges l.self.profile.now l.self.picture.now l.memory l.changes.items l.row
