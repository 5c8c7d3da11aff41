use Rattle.std.proofs.Common.{sym, ap, refl, ◌∙◌}
use Rattle.scr_terminal.specs.Ecma.Screens.{ScreenView}
use Rattle.scr_terminal.proofs.EcmaFedLaws.{took_control}
use Rattle.scr_terminal.proofs.ecma.screens.EcmaScreen.take_control.Goals as goal

pub returns : goal.returns
returns c =
    let view = c.self.view_is in
    took_control c.args.self.now c.apply.new.self c.args.byte c.args.self.now.waiting c.size.result.rows c.size.result.columns c.spot.result
    c.control_character-change.result c.requires.defined refl c.requires.reading
    (sym (c.size.ensures.rows ∙ ap (λ (s : ScreenView). s.rows) view))
    (sym (c.size.ensures.columns ∙ ap (λ (s : ScreenView). s.columns) view))
    (sym (c.spot.ensures.value ∙ ap (λ (s : ScreenView). s.state.spot) view))
    c.control_character-change.ensures.value c.apply.ensures
