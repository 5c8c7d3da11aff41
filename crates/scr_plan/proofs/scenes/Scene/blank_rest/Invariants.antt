use Rattle.scr_plan.proofs.LookingLaws.{IsKeptRest}
use Rattle.std.proofs.Common.{option_map}
use Rattle.scr_plan.proofs.scenes.Scene.blank_rest.Given as goal

abbrev pub invariant-loop-rest : goal.invariant-loop-rest
invariant-loop-rest l = IsKeptRest l.self.painter l.self.picture.now l.line.row (option_map (λ looks. looks.now) l.line.before) l.from l.end l.rest

abbrev pub decreases-loop-rest : goal.decreases-loop-rest
decreases-loop-rest l = l.rest.begin
