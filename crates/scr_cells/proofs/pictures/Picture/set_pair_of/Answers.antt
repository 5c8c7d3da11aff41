use Rattle.std.proofs.Common.{rules}
use Rattle.scr_cells.proofs.pictures.Picture.set_pair_of.Goals as goal

pub returns : goal.returns
returns c = search rules
