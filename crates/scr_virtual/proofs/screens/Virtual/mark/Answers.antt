use Rattle.scr_virtual.proofs.ScreenLaws.{marked_screen, marked_screen_is_virtual}
use Rattle.scr_virtual.proofs.screens.Virtual.mark.Goals as goal

pub invariant_of-self : goal.invariant_of-self
invariant_of-self c =
    marked_screen_is_virtual c.self.inside.picture c.self.inside.repaint c.self.inside.changed c.self.inside.altered _ _ _ c.args.row c.args.n c.min-first.result c.min.result c.size-size.result.rows c.size-size.result.columns c.self.view_is c.self.invariant
    c.size-size.ensures.rows c.size-size.ensures.columns c.min-first.ensures c.min.ensures c.fill.ensures c.fill-2.ensures

pub returns : goal.returns
returns c =
    marked_screen c.self.inside.picture c.self.inside.repaint c.self.inside.changed c.self.inside.altered _ _ _ c.args.row c.args.n c.min-first.result c.min.result c.size-size.result.rows c.size-size.result.columns c.self.view_is c.self.invariant
    c.size-size.ensures.rows c.size-size.ensures.columns c.min-first.ensures c.min.ensures c.fill.ensures c.fill-2.ensures
