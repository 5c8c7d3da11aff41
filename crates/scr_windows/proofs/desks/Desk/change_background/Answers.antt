use Rattle.std.proofs.Common.{◌∙◌, sym}
use Rattle.scr_windows.specs.Surfaces.Formulas.{all_exchanged}
use Rattle.scr_windows.specs.Changes.{write}
use Rattle.scr_windows.specs.Calls.Settings.{change_background_call}
use Rattle.scr_windows.proofs.WrittenLaws.{rewritten}
use Rattle.scr_windows.proofs.desks.Desk.change_background.Goals as goal

pub returns-clause-call : goal.returns-clause-call
unfolding change_background_call
returns-clause-call c =
    let canvas = c.in_ok-canvas.canvas in
    rewritten c.args.self.now _ _ c.args.win.0 canvas (λ s rows. all_exchanged s.background c.args.cell) (λ s. record s { background = c.args.cell }) c.in_ok-canvas.ensures
    (c.draw.ensures.drawn ∙ (λ j. write c.args.self.now canvas.index 0 (sym c.in_ok-canvas.ensures.area_is j).rows (all_exchanged canvas.state.background c.args.cell))) c.set_state.ensures
