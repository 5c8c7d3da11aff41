use Rattle.scr_windows.proofs.FilledLaws.{filled_is}
use Rattle.scr_windows.proofs.ChangeLaws.{run_filled}
use Rattle.scr_windows.proofs.surfaces.Surface.fill_run.Goals as goal

pub returns : goal.returns
returns c = filled_is _ _ _ _ (run_filled _ _ c.args.area c.args.row c.args.from c.args.end c.args.cell c.requires.surface c.requires.part c.requires.row c.requires.end c.put_row.ensures)
