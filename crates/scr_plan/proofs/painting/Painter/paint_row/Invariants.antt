use Rattle.std.proofs.Common.{◌≡◌, ◌++◌}
use Rattle.std.specs.List.{flat_map}
use Rattle.scr_plan.specs.Code.Painters.{painter_paints_place}
use Rattle.scr_plan.specs.Scratch.{row_places}
use Rattle.scr_plan.proofs.painting.Painter.paint_row.Given as goal

abbrev pub invariant-loop-column : goal.invariant-loop-column
invariant-loop-column l =
    l.ops.items ≡ l.fn.ops.items ++ flat_map (painter_paints_place l.self l.picture) (row_places l.column l.row)
