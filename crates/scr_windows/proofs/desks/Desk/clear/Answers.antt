use Rattle.std.proofs.Common.{true}
use Rattle.scr_windows.specs.Surfaces.Formulas.{rows_put}
use Rattle.scr_windows.specs.Calls.Erasing.{clear_call}
use Rattle.scr_windows.proofs.WrittenLaws.{rewritten}
use Rattle.scr_windows.proofs.desks.Desk.clear.Goals as goal

pub returns-clause-call : goal.returns-clause-call
unfolding clear_call
returns-clause-call c = rewritten c.args.self.now _ _ c.args.win.0 c.in_ok-canvas.canvas (λ s rows. rows_put 0 rows s.background) (λ s. record s { cursor = (0, 0); clear_ok = true }) c.in_ok-canvas.ensures c.draw.ensures.drawn c.set_state.ensures
