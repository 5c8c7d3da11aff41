use Rattle.std.proofs.Common.{◌≡◌, arith, get_or, ap, ◌∙◌, append_assoc}
use Rattle.scr_cells.specs.CellViews.{blank_cell}
use Rattle.scr_cells.specs.Grids.{grid_at}
use Rattle.scr_plan.specs.Code.Painters.{painter_paints_place}
use Rattle.scr_plan.proofs.PartLaws.{flat_map-row_more, read_any}
use Rattle.scr_plan.proofs.painting.Painter.paint_row.Goals as goal

pub loop-column-preserved : goal.loop-column-preserved
loop-column-preserved c =
    let picture = c.args.picture.now in
    let column = c.loop-column.column in
    let cell : c.index-cells-column.result ≡ grid_at blank_cell picture.lines c.args.row column =
    c.index-cells-column.is ∙ read_any c.row-cells.result.now column c.index-cells-column.result blank_cell (omega arith) ∙ ap (λ cells. get_or cells column blank_cell) c.row-cells.ensures.cells in
    rw (c.in_ok-paint_cell.ensures, c.loop-column.invariant, cell, append_assoc, flat_map-row_more (painter_paints_place c.args.self picture) c.args.row column)
