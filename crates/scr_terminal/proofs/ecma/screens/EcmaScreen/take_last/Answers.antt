use Rattle.std.proofs.Common.{sym, ap, subst, ◌∙◌}
use Rattle.scr_terminal.specs.Ecma.Screens.{ScreenView}
use Rattle.scr_terminal.specs.Code.Readings.{IsLast}
use Rattle.scr_terminal.proofs.EcmaFedLaws.{took_last}
use Rattle.scr_terminal.proofs.ecma.screens.EcmaScreen.take_last.Goals as goal

pub returns : goal.returns
returns c =
    let view = c.self.view_is in
    let same = c.as_slice-part.ensures.value ∙ ap (λ (s : ScreenView). s.waiting) view in
    took_last c.args.self.now c.apply.new.self c.args.byte c.as_slice-part.result.now c.size-size.result.rows c.size-size.result.columns
    c.spot.result c.pen.result c.control_sequence-change.result c.requires.defined same
    (subst (λ p. IsLast p c.args.byte) (sym same) c.requires.reading)
    (sym (c.size-size.ensures.rows ∙ ap (λ (s : ScreenView). s.rows) view))
    (sym (c.size-size.ensures.columns ∙ ap (λ (s : ScreenView). s.columns) view))
    (sym (c.spot.ensures.value ∙ ap (λ (s : ScreenView). s.state.spot) view))
    (sym (c.pen.ensures.value ∙ ap (λ (s : ScreenView). s.state.pen) view))
    c.control_sequence-change.ensures.value c.apply.ensures
