use Rattle.std.proofs.Common.{filter}
use Rattle.std.specs.List.{flat_map}
use Rattle.scr_plan.specs.Code.Joinings.{Continues, joined_at}
use Rattle.scr_plan.specs.Repaints.{cleared, differs}
use Rattle.scr_plan.specs.Scratch.{places}
use Rattle.scr_plan.proofs.drafts.Draft.join_all.Given as goal

abbrev pub invariant-loop-row : goal.invariant-loop-row
invariant-loop-row l = Continues l.scene.profile.now l.fn.self l.self (flat_map (joined_at l.scene.profile.now l.scene.picture.now (cleared l.scene.picture.now)) (filter (differs l.scene.profile.now l.scene.picture.now (cleared l.scene.picture.now)) (places l.row l.scene.picture.now.columns)))
