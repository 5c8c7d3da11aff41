use Rattle.std.proofs.Common.{sym, ◌∙◌}
use Rattle.scr_terminal.proofs.EcmaStateLaws.{renditions_shown}
use Rattle.scr_terminal.proofs.ecma.controls.control_function.Goals as goal

pub returns-in_ok-renditions-in-109-clause-change :
    goal.returns-in_ok-renditions-in-109-clause-change
returns-in_ok-renditions-in-109-clause-change c =
    renditions_shown c.shown_pen_laws.ensures c.args.size.rows c.args.size.columns c.args.pen c.args.parameters.now c.in_ok-renditions-in-109.field-0 c.requires.shown
    (sym c.in_ok-renditions-in-109.was ∙ c.renditions.ensures)
