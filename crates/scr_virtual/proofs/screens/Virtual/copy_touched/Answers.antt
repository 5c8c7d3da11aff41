use Rattle.scr_virtual.proofs.CopyLaws.{none_to_copy}
use Rattle.scr_virtual.proofs.TakingLaws.{none_touched}
use Rattle.scr_virtual.proofs.screens.Virtual.copy_touched.Goals as goal

pub returns-else-any : goal.returns-else-any
returns-else-any c =
    let lent = c.args.window.now in
    none_to_copy c.grid_laws.ensures c.args.part _ _ c.args.self.now c.size-screen.ensures.screen.picture.grid
    (none_touched lent.window.touched (c.requires.none c.if-any.false))
