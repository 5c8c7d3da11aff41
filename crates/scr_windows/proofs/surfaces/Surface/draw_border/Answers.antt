use Rattle.scr_windows.proofs.FilledLaws.{filled_is}
use Rattle.scr_windows.proofs.BorderLaws.{border_drawn}
use Rattle.scr_windows.proofs.surfaces.Surface.draw_border.Goals as goal

pub returns : goal.returns
returns c = filled_is _ _ _ _ (border_drawn _ _ _ _ _ _ _ _ c.args.area c.args.border c.requires.part c.draw_sides.ensures c.put_row.ensures c.put_row-2.ensures c.put_row-3.ensures c.put_row-4.ensures c.put_row-5.ensures c.put_row-6.ensures)
