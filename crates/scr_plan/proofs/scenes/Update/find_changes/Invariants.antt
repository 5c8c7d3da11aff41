use Rattle.scr_plan.specs.Code.Planning.{AreChanges}
use Rattle.scr_plan.proofs.scenes.Update.find_changes.Given as goal

-- as far as the loop has come
abbrev pub invariant-loop-row : goal.invariant-loop-row
invariant-loop-row l = AreChanges l.self.scene.profile.now l.self.wanted.now.picture l.self.memory.now l.changes.items l.row
