use Rattle.std.proofs.Common.{arith}
use Rattle.scr_windows.proofs.ReadingLaws.{cell_answer}
use Rattle.scr_windows.proofs.desks.Desk.cell_at.Goals as goal

pub returns : goal.returns
returns c = cell_answer c.args.self.now c.args.win.0 c.args.row c.args.column c.in_ok-canvas.canvas.index c.in_ok-canvas.canvas.area c.row_of-cells.result.now c.index-cells-column.result
    c.in_ok-canvas.ensures.index_is c.in_ok-canvas.ensures.area_is (omega arith) (omega arith) c.row_of-cells.ensures.cells c.index-cells-column.is
