use Rattle.std.proofs.Common.{arith}
use Rattle.scr_windows.proofs.FilledLaws.{filled_is}
use Rattle.scr_windows.proofs.TextLaws.{first_fits, text_laid}
use Rattle.scr_windows.proofs.surfaces.Surface.write_text.Goals as goal

pub returns-clause-cells : goal.returns-clause-cells
returns-clause-cells c =
    filled_is _ _ _ _ (text_laid _ _ c.args.area c.args.row c.args.column _ c.args.text.now c.args.blank c.size.ensures.surface c.requires.part c.requires.row (omega (arith, c.requires.end, c.write_row.ensures.count, first_fits c.args.text.now)) c.write_row.ensures.run)
