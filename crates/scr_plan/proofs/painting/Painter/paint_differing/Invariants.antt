use Rattle.std.proofs.Common.{◌≡◌, ◌++◌, filter}
use Rattle.std.specs.List.{flat_map}
use Rattle.scr_plan.specs.Code.Painters.{painter_differs, painter_paints_place}
use Rattle.scr_plan.specs.Scratch.{row_places}
use Rattle.scr_plan.proofs.painting.Painter.paint_differing.Given as goal

abbrev pub invariant-loop-column : goal.invariant-loop-column
invariant-loop-column l = l.ops.items ≡ l.fn.ops.items ++ flat_map (painter_paints_place l.self l.picture) (filter (painter_differs l.self l.picture l.memory) (row_places l.column l.row))
