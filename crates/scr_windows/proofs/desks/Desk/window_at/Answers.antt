use Rattle.scr_windows.proofs.DeskLaws.{placed_by}
use Rattle.scr_windows.proofs.desks.Desk.window_at.Goals as goal

pub returns-clause-placed : goal.returns-clause-placed
returns-clause-placed c = placed_by _ _ c.args.index c.self.view_is c.self.invariant c.requires
