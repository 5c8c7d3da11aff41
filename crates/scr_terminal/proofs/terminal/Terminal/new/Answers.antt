use Rattle.scr_terminal.proofs.TerminalViewLaws.{new_is_terminal}
use Rattle.scr_terminal.proofs.terminal.Terminal.new.Goals as goal

pub invariant_of-result : goal.invariant_of-result
invariant_of-result c =
    new_is_terminal c.look_grid_laws.ensures c.shown_pen_laws.ensures c.args.size.rows c.args.size.columns c.in_ok-new.field-0 c.blank.result c.plain.result c.args.size.in_range
    c.in_ok-new.ensures c.blank.ensures c.plain.ensures
