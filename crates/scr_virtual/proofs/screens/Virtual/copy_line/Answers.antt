use Rattle.std.proofs.Common.{refl}
use Rattle.scr_virtual.proofs.ScreenLaws.{copied_line}
use Rattle.scr_virtual.proofs.screens.Virtual.copy_line.Goals as goal

pub returns : goal.returns
returns c =
    copied_line c.self.inside.picture _ c.self.inside.repaint c.self.inside.changed c.self.inside.altered _ _ c.args.self.now c.args.row c.args.column _ c.args.cells.now c.unlike-altered.result c.self.view_is c.put_row.ensures refl
    c.join.ensures c.join-2.ensures c.unlike-altered.ensures.same
