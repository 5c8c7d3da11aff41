use Rattle.std.proofs.Common.{◌∙◌, ap}
use Rattle.scr_cells.specs.Grids.{rows_of}
use Rattle.scr_cells.proofs.GridLaws.{constant_grid}
use Rattle.scr_cells.proofs.grids.Grid.new.Goals as goal

pub returns : goal.returns
returns g c = λ i. record { rows = c.args.rows; columns = c.args.columns; lines = (ap (rows_of c.args.rows c.args.columns) c.in_ok-items.ensures ∙ constant_grid c.args.rows c.args.columns c.args.element) i }
