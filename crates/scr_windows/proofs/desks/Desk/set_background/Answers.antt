use Rattle.std.proofs.Common.{refl}
use Rattle.scr_windows.specs.Calls.Settings.{set_background_call}
use Rattle.scr_windows.proofs.WrittenLaws.{set_in}
use Rattle.scr_windows.proofs.desks.Desk.set_background.Goals as goal

pub returns-clause-call : goal.returns-clause-call
unfolding set_background_call
returns-clause-call c = set_in c.args.self.now _ c.args.win.0 c.in_ok-canvas.canvas _ (λ s. record s { background = c.args.cell }) c.in_ok-canvas.ensures c.set_state.ensures refl
