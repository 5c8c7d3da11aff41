use Rattle.std.proofs.Common.{◌≡◌, ◌++◌, filter}
use Rattle.std.specs.List.{flat_map}
use Rattle.scr_plan.specs.Repaints.{differs}
use Rattle.scr_plan.specs.Scratch.{paints_place, places, resets}
use Rattle.scr_plan.proofs.plain_repaint.plain.Given as goal

abbrev pub invariant-loop-row : goal.invariant-loop-row
invariant-loop-row l =
    l.ops.items ≡ resets l.profile ++ flat_map (paints_place l.profile l.picture) (filter (differs l.profile l.picture l.memory) (places l.row l.picture.columns))
