use Rattle.std.proofs.Common.{◌≡◌, ◌∙◌, Err, ap, refl, true, rules}
use Rattle.scr_virtual.specs.Taking.{pad_part, take_pad_call}
use Rattle.scr_virtual.proofs.TakingLaws.{not_there, no_part, pad_shown, part_is_taken}
use Rattle.scr_virtual.proofs.screens.Virtual.take_pad.Goals as goal

pub returns-in_err-window : goal.returns-in_err-window
unfolding take_pad_call
returns-in_err-window c =
    let e : c.from_residual.result ≡ Err c.in_err-window.field-0.0 = search rules in
    ap (λ r. ((c.args.self.now, c.args.desk.now), r)) e ∙ not_there c.args.self.now c.args.desk.now c.args.win.0 _ (pad_part c.args.desk.now.rows c.args.desk.now.columns c.args.row c.args.column c.args.top c.args.left c.args.bottom c.args.right) (λ _ _. true) c.in_err-window.ensures

pub returns-in_err-part : goal.returns-in_err-part
unfolding take_pad_call
returns-in_err-part c =
    let e : c.from_residual-in_err-part.result ≡ Err c.in_err-part.field-0.0 = search rules in
    ap (λ r. ((c.args.self.now, c.args.desk.now), r)) e ∙ no_part c.args.self.now c.args.desk.now c.args.win.0 _ _ (pad_part c.args.desk.now.rows c.args.desk.now.columns c.args.row c.args.column c.args.top c.args.left c.args.bottom c.args.right) (λ _ _. true) c.in_ok-window.ensures (c.in_err-part.ensures.part ∙ (λ i. pad_part (c.screen-screen.ensures.rows i) (c.screen-screen.ensures.columns i) c.args.row c.args.column c.args.top c.args.left c.args.bottom c.args.right c.in_ok-window.window.window))

pub show-requires : goal.show-requires
show-requires c = pad_shown c.screen-screen.result.rows c.screen-screen.result.columns _ c.args.self.now _ (c.screen-screen.ensures.rows ∙ c.requires.rows) (c.screen-screen.ensures.columns ∙ c.requires.columns) c.in_ok-part.ensures.inside

pub returns : goal.returns
unfolding take_pad_call
returns c =
    part_is_taken c.grid_laws.ensures c.args.desk.now c.take_lines.new.desk c.args.win.0 c.in_ok-window.window c.args.self.now c.show.new.self c.take_lines.new.self c.in_ok-part.part (pad_part c.args.desk.now.rows c.args.desk.now.columns c.args.row c.args.column c.args.top c.args.left c.args.bottom c.args.right) (λ _ _. true) true
    c.in_ok-window.ensures (c.in_ok-part.ensures.part ∙ (λ i. pad_part (c.screen-screen.ensures.rows i) (c.screen-screen.ensures.columns i) c.args.row c.args.column c.args.top c.args.left c.args.bottom c.args.right c.in_ok-window.window.window))
    (pad_shown c.screen-screen.result.rows c.screen-screen.result.columns _ c.args.self.now _ (c.screen-screen.ensures.rows ∙ c.requires.rows) (c.screen-screen.ensures.columns ∙ c.requires.columns) c.in_ok-part.ensures.inside)
    (λ window line. refl) c.show.ensures c.take_lines.ensures.screen c.take_lines.ensures.desk
