use Rattle.scr_windows.proofs.DeskLaws.{lines_marked}
use Rattle.scr_windows.proofs.desks.Desk.mark.Goals as goal

pub invariant_of-self : goal.invariant_of-self
invariant_of-self c = lines_marked _ _ c.self.view_is c.args.index _ _ c.args.first c.args.end c.args.mark c.self.invariant c.requires.here c.index_mut.ensures.value c.mark.ensures
