use Rattle.std.proofs.Common.{ap, append_assoc, arith, filter, get_or, ◌≡◌, ◌∙◌, ◌+◌, ◌++◌}
use Rattle.std.specs.List.{flat_map}
use Rattle.scr_cells.specs.CellViews.{blank_cell}
use Rattle.scr_cells.specs.Grids.{grid_at}
use Rattle.scr_cells.specs.LookViews.{blank}
use Rattle.scr_plan.specs.Code.Painters.{painter_differs, painter_paints_place}
use Rattle.scr_plan.specs.Repaints.{look_in}
use Rattle.scr_plan.specs.Scratch.{row_places}
use Rattle.scr_plan.proofs.PartLaws.{one_place, part_more, read_any}
use Rattle.scr_plan.proofs.painting.Painter.paint_differing.Goals as goal

pub loop-column-preserved : goal.loop-column-preserved
loop-column-preserved c =
    let picture = c.args.picture.now in
    let memory = c.args.memory.now in
    let row = c.args.row in
    let column = c.loop-column.column in
    let f = painter_paints_place c.args.self picture in
    let d = painter_differs c.args.self picture memory in
    let cell : c.index-cells-column.result ≡ grid_at blank_cell picture.lines row column =
    c.index-cells-column.is ∙ read_any c.row-cells.result.now column c.index-cells-column.result blank_cell (omega arith) ∙ ap (λ cells. get_or cells column blank_cell) c.row-cells.ensures.cells in
    let look : c.index-looks-column.result ≡ look_in memory (row, column) =
    c.index-looks-column.is ∙ read_any c.looks-looks.result.now column c.index-looks-column.result blank (omega arith) ∙ ap (λ looks. get_or looks column blank) c.looks-looks.ensures.cells in
    let here : 0 + column ≡ column = omega arith in
    rw (c.in_ok-paint_unless_shown.ensures, c.loop-column.invariant, c.is_known_row-known.ensures, look, cell, append_assoc, part_more f d 0 column row, here)
    (ap (λ ops. c.args.ops.now.items ++ (flat_map f (filter d (row_places column row)) ++ ops)) (one_place f (row, column) _))
