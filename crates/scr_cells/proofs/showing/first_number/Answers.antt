use Rattle.std.proofs.Common.{rules}
use Rattle.scr_cells.proofs.ShowingLaws.{first_in}
use Rattle.scr_cells.proofs.showing.first_number.Goals as goal

pub returns : goal.returns
returns c = first_in c.args.cells.now c.packed.result c.index-cells-0.result (search rules) c.packed.ensures.back c.index-cells-0.is
