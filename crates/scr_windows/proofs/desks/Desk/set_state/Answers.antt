use Rattle.scr_windows.proofs.DeskLaws.{state_set}
use Rattle.scr_windows.proofs.desks.Desk.set_state.Goals as goal

pub invariant_of-self : goal.invariant_of-self
invariant_of-self c = state_set _ _ c.self.view_is c.args.index _ _ c.args.state c.self.invariant c.requires.here c.index_mut.ensures.value c.requires.state c.set_state.ensures
