use Rattle.std.proofs.Common.{append_assoc}
use Rattle.scr_plan.specs.Scratch.{paints_place}
use Rattle.scr_plan.proofs.PartLaws.{flat_map-places_more}
use Rattle.scr_plan.proofs.painting.scratch.Goals as goal

pub loop-row-preserved : goal.loop-row-preserved
loop-row-preserved c =
    rw (c.in_ok-paint_row.ensures, c.loop-row.invariant, c.of-painter.ensures, append_assoc, flat_map-places_more (paints_place c.args.profile.now c.args.picture.now) c.loop-row.row c.args.picture.now.columns)
