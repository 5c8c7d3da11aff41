use Rattle.scr_windows.proofs.FilledLaws.{filled_is}
use Rattle.scr_windows.proofs.ChangeLaws.{closed}
use Rattle.scr_windows.proofs.surfaces.Surface.close_row.Goals as goal

pub returns : goal.returns
returns c = filled_is _ _ _ _ (closed _ _ _ c.args.area c.args.row c.args.column c.args.cell c.requires.surface c.requires.part c.requires.row c.requires.column c.move_row.ensures c.put_row.ensures)
