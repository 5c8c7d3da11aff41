use Rattle.std.proofs.Common.{Some, arith}
use Rattle.std.proofs.lemmas.List.Elements.{All-replicate}
use Rattle.scr_cells.specs.PictureViews.{AreColours}
use Rattle.scr_cells.proofs.pictures.first_pairs.Goals as goal

pub returns-clause-colours : goal.returns-clause-colours
returns-clause-colours c = All-replicate AreColours 63 (Some 7, Some 0) (omega arith, omega arith)
