use Rattle.std.proofs.Common.{◌≡◌, ◌∙◌, Err, ap, refl, false, true, rules}
use Rattle.std.specs.Result.{result_unwrap_or}
use Rattle.scr_virtual.specs.Taking.{take_window_call, touched_line, window_part, wish_of}
use Rattle.scr_virtual.specs.VirtualViews.{VirtualView}
use Rattle.scr_virtual.proofs.TakingLaws.{not_there, no_part, part_is_taken, still_shown, untouched, window_shown}
use Rattle.scr_virtual.proofs.screens.Virtual.take_window.Goals as goal

pub returns-in_err-window : goal.returns-in_err-window
unfolding take_window_call
returns-in_err-window c =
    let e : c.from_residual.result ≡ Err c.in_err-window.field-0.0 = search rules in
    ap (λ r. ((c.args.self.now, c.args.desk.now), r)) e ∙ not_there c.args.self.now c.args.desk.now c.args.win.0 _ window_part touched_line c.in_err-window.ensures

pub returns-in_err-part : goal.returns-in_err-part
unfolding take_window_call
returns-in_err-part c =
    let e : c.from_residual-in_err-part.result ≡ Err c.in_err-part.field-0.0 = search rules in
    ap (λ r. ((c.args.self.now, c.args.desk.now), r)) e ∙ no_part c.args.self.now c.args.desk.now c.args.win.0 _ _ window_part touched_line c.in_ok-window.ensures c.in_err-part.ensures

pub copy_touched-requires-clause-shown : goal.copy_touched-requires-clause-shown
copy_touched-requires-clause-shown c = window_shown c.windows_are_placed.ensures c.args.desk.now c.args.win.0 _ c.args.self.now _ c.screen-screen.ensures.desk c.requires.rows c.requires.columns c.in_ok-window.ensures c.in_ok-part.ensures

pub copy_touched-requires-clause-none : goal.copy_touched-requires-clause-none
copy_touched-requires-clause-none c =
    untouched c.args.desk.now c.args.win.0 c.in_ok-window.window c.unwrap_or-any.result c.in_ok-window.ensures (c.unwrap_or-any.ensures ∙ ap (λ r. result_unwrap_or r true) c.window_touched.ensures)

pub wish-requires : goal.wish-requires
wish-requires c =
    still_shown c.args.self.now c.copy_touched.new.self c.in_ok-window.window c.in_ok-part.part c.in_ok-part.part _ _
    (window_shown c.windows_are_placed.ensures c.args.desk.now c.args.win.0 _ c.args.self.now _ c.screen-screen.ensures.desk c.requires.rows c.requires.columns c.in_ok-window.ensures c.in_ok-part.ensures)
    c.copy_touched.ensures

pub returns : goal.returns
unfolding take_window_call
returns c =
    part_is_taken c.grid_laws.ensures c.args.desk.now c.take_lines.new.desk c.args.win.0 c.in_ok-window.window c.args.self.now c.wish.new.self c.take_lines.new.self c.in_ok-part.part window_part touched_line false
    c.in_ok-window.ensures c.in_ok-part.ensures
    (window_shown c.windows_are_placed.ensures c.args.desk.now c.args.win.0 _ c.args.self.now _ c.screen-screen.ensures.desk c.requires.rows c.requires.columns c.in_ok-window.ensures c.in_ok-part.ensures)
    (λ window line. refl)
    (c.wish.ensures ∙ ap (λ (w : VirtualView). record w { picture = record w.picture { wish = wish_of c.in_ok-part.part c.in_ok-window.window.window.state } }) c.copy_touched.ensures)
    c.take_lines.ensures.screen c.take_lines.ensures.desk
