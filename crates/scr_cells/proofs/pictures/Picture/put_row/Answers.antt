use Rattle.std.proofs.Common.{rules}
use Rattle.scr_cells.proofs.pictures.Picture.put_row.Goals as goal

pub returns : goal.returns
returns c = search rules
