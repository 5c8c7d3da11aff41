use Rattle.std.proofs.Common.{refl}
use Rattle.scr_windows.specs.Calls.Settings.{leave_ok_call}
use Rattle.scr_windows.proofs.WrittenLaws.{set_in}
use Rattle.scr_windows.proofs.desks.Desk.leave_ok.Goals as goal

pub returns-clause-call : goal.returns-clause-call
unfolding leave_ok_call
returns-clause-call c = set_in c.args.self.now _ c.args.win.0 c.in_ok-canvas.canvas _ (λ s. record s { leave_ok = c.args.on }) c.in_ok-canvas.ensures c.set_state.ensures refl
