use Rattle.std.proofs.Common.{◌+◌, ◌-◌, ◌∙◌, ap, arith, get_or, length, List}
use Rattle.scr_cells.specs.CellViews.{CellView, blank_cell}
use Rattle.scr_cells.specs.Grids.{grid_row}
use Rattle.scr_virtual.specs.Code.Lines.{copied_cell}
use Rattle.scr_virtual.specs.Ranges.{joined_by}
use Rattle.scr_virtual.specs.Taking.{columns_unlike}
use Rattle.scr_virtual.specs.VirtualViews.{VirtualView}
use Rattle.scr_virtual.proofs.UnlikeLaws.{none_unlike, some_unlike, unlike_is_range}
use Rattle.scr_virtual.proofs.screens.Virtual.unlike.Goals as goal

pub returns-clause-columns : goal.returns-clause-columns
returns-clause-columns c =
    unlike_is_range c.row.result.now c.args.cells.now c.args.column (c.args.column + length c.args.cells.now - c.args.column) c.in-Some.first c.in-Some-last_difference.last c.args.self.now.picture.columns (omega arith) c.requires.end c.in-Some.ensures c.in-Some-last_difference.ensures

pub returns-clause-same : goal.returns-clause-same
returns-clause-same c range =
    let columns = ap (λ (v : VirtualView). v.picture.columns) c.self.view_is in
    some_unlike c.row.result.now c.args.cells.now c.args.column (c.args.column + length c.args.cells.now - c.args.column) c.in-Some.first c.in-Some-last_difference.last range (omega arith) (omega (arith, c.requires.end, c.row.ensures.width, columns)) c.in-Some.ensures c.in-Some-last_difference.ensures
    ∙ ap (λ (line : List CellView). joined_by (columns_unlike (λ k. get_or line k blank_cell) (copied_cell c.args.column c.args.cells.now) c.args.column (length c.args.cells.now)) range) (c.row.ensures.cells ∙ ap (λ (v : VirtualView). grid_row v.picture.lines c.args.row) c.self.view_is)

pub returns-in_default-clause-same : goal.returns-in_default-clause-same
returns-in_default-clause-same c range =
    let columns = ap (λ (v : VirtualView). v.picture.columns) c.self.view_is in
    none_unlike c.row.result.now c.args.cells.now c.args.column (c.args.column + length c.args.cells.now - c.args.column) range (omega arith) (omega (arith, c.requires.end, c.row.ensures.width, columns)) c.in_default.ensures
    ∙ ap (λ (line : List CellView). joined_by (columns_unlike (λ k. get_or line k blank_cell) (copied_cell c.args.column c.args.cells.now) c.args.column (length c.args.cells.now)) range) (c.row.ensures.cells ∙ ap (λ (v : VirtualView). grid_row v.picture.lines c.args.row) c.self.view_is)
