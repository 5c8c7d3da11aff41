use Rattle.std.proofs.Common.{rules}
use Rattle.scr_cells.proofs.pictures.Picture.seen_pen.Goals as goal

pub returns-then-pair-eq0 : goal.returns-then-pair-eq0
returns-then-pair-eq0 c = search rules
