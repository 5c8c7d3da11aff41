use Rattle.scr_windows.proofs.DeskLaws.{cursor_set}
use Rattle.scr_windows.proofs.desks.Desk.set_cursor.Goals as goal

pub invariant_of-self : goal.invariant_of-self
invariant_of-self c = cursor_set _ _ c.self.view_is c.args.index _ _ c.args.row c.args.column c.self.invariant c.requires.here c.index_mut.ensures.value c.requires.row c.requires.column c.set_cursor.ensures
