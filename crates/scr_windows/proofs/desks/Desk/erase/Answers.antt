use Rattle.scr_windows.specs.Surfaces.Formulas.{rows_put}
use Rattle.scr_windows.specs.Calls.Erasing.{erase_call}
use Rattle.scr_windows.proofs.WrittenLaws.{rewritten}
use Rattle.scr_windows.proofs.desks.Desk.erase.Goals as goal

pub returns-clause-call : goal.returns-clause-call
unfolding erase_call
returns-clause-call c = rewritten c.args.self.now _ _ c.args.win.0 c.in_ok-canvas.canvas (λ s rows. rows_put 0 rows s.background) (λ s. record s { cursor = (0, 0) }) c.in_ok-canvas.ensures c.draw.ensures.drawn c.set_state.ensures
