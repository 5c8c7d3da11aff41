use Rattle.std.proofs.Common.{◌≡◌, ◌∙◌, false, ap, refl, sym}
use Rattle.std.specs.Prelude.{replicate}
use Rattle.std.specs.Option.{unwrap_or}
use Rattle.unicode_width.specs.Width.{char_width}
use Rattle.scr_windows.specs.DeskViews.{no_attributes, window_at}
use Rattle.scr_windows.specs.Calls.Adding.{text_added}
use Rattle.scr_windows.proofs.AddingLaws.{character_is_cell, character_is_code}
use Rattle.scr_windows.proofs.AddedLaws.{added_one}
use Rattle.scr_windows.proofs.FittedLaws.{fitted_character, fitted_control, fitted_other}
use Rattle.scr_windows.proofs.desks.Desk.add_fitted.Goals as goal

pub returns-then-is_control-clause-added : goal.returns-then-is_control-clause-added
returns-then-is_control-clause-added c =
    c.add_at.ensures.added ∙ sym (added_one c.args.self.now c.args.index c.args.character) ∙ ap (text_added c.args.self.now c.args.index) (sym (fitted_control c.args.character (sym c.is_control.ensures ∙ c.if-is_control.true)))

pub returns-in-Some-clause-added : goal.returns-in-Some-clause-added
returns-in-Some-clause-added c =
    let d = c.args.self.now in
    let i = c.args.index in
    let code = c.args.character in
    let is = c.in-Some.ensures.some.0 refl in
    let state = c.canvas_at-state.ensures.canvas.state_is ∙ ap (λ n. (window_at d n).state) c.canvas_at-state.ensures.index in
    c.write_cell.ensures.added ∙ character_is_cell d i code no_attributes c.in-Some.cell c.canvas_at-state.result.state c.in-Some.ensures.form state
    ∙ character_is_code d i code no_attributes (sym c.is_control.ensures ∙ c.if-is_control.false) ∙ sym (added_one d i code) ∙ ap (text_added d i) (sym (fitted_character code is))

pub returns-in-None-clause-added : goal.returns-in-None-clause-added
returns-in-None-clause-added c =
    let columns : c.unwrap_or.result ≡ unwrap_or (char_width false c.args.character) 0 = c.unwrap_or.ensures ∙ ap (λ width. unwrap_or width 0) c.width.ensures.value in
    c.add_replacements.ensures.added
    ∙ ap (λ n. text_added c.args.self.now c.args.index (replicate n 0xFFFD)) columns
    ∙ ap (text_added c.args.self.now c.args.index) (sym (fitted_other c.args.character (sym c.is_control.ensures ∙ c.if-is_control.false) c.in-None.ensures.some.1))
