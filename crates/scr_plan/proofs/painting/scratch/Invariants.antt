use Rattle.std.proofs.Common.{◌≡◌, ◌∷◌, ◌++◌, []}
use Rattle.std.specs.List.{flat_map}
use Rattle.scr_term.specs.declared.operations.operation.Op.TheVariants.{Clear}
use Rattle.scr_plan.specs.Scratch.{paints_place, places, resets}
use Rattle.scr_plan.proofs.painting.scratch.Given as goal

abbrev pub invariant-loop-row : goal.invariant-loop-row
invariant-loop-row l =
    l.ops.items ≡ resets l.profile ++ Clear ∷ [] ++ flat_map (paints_place l.profile l.picture) (places l.row l.picture.columns)
