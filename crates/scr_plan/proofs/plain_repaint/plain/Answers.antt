use Rattle.std.proofs.Common.{ap, filter, ◌∙◌, ◌++◌}
use Rattle.std.specs.List.{flat_map}
use Rattle.scr_plan.specs.Code.Painters.{painter_differs, painter_paints_place}
use Rattle.scr_plan.specs.Repaints.{differs}
use Rattle.scr_plan.specs.Scratch.{paints_place, resets, row_places}
use Rattle.scr_plan.proofs.PlanningLaws.{row_added}
use Rattle.scr_plan.proofs.plain_repaint.plain.Goals as goal

pub loop-row-preserved : goal.loop-row-preserved
loop-row-preserved c =
    let profile = c.args.profile.now in
    let picture = c.args.picture.now in
    let memory = c.args.memory.now in
    row_added (resets profile) (paints_place profile picture) (differs profile picture memory) c.loop-row.row picture.columns c.loop-row.ops.items c.paint_differing.new.ops.items
    c.loop-row.invariant
    (c.in_ok-paint_differing.ensures
    ∙ ap (λ p. c.loop-row.ops.items ++ flat_map (painter_paints_place p picture) (filter (painter_differs p picture memory) (row_places picture.columns c.loop-row.row))) c.of-painter.ensures)
