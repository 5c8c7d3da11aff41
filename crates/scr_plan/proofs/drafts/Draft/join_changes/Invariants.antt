use Rattle.std.proofs.Common.{filter}
use Rattle.std.specs.List.{flat_map}
use Rattle.scr_plan.specs.Code.Joinings.{Continues, joined_at}
use Rattle.scr_plan.specs.Code.Planning.{row_after}
use Rattle.scr_plan.specs.Repaints.{differs}
use Rattle.scr_plan.specs.Scratch.{places}
use Rattle.scr_plan.proofs.drafts.Draft.join_changes.Given as goal

abbrev pub invariant-loop-change : goal.invariant-loop-change
invariant-loop-change l = Continues l.scene.profile.now l.fn.self l.self (flat_map (joined_at l.scene.profile.now l.scene.picture.now l.memory) (filter (differs l.scene.profile.now l.scene.picture.now l.memory) (places (row_after l.changes l.change-index) l.scene.picture.now.columns)))
