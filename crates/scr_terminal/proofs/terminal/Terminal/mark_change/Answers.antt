use Rattle.scr_terminal.proofs.MarkLaws.{change_is_marked}
use Rattle.scr_terminal.proofs.terminal.Terminal.mark_change.Goals as goal

pub returns-clause-marks : goal.returns-clause-marks
returns-clause-marks c = change_is_marked c.grid_laws.ensures c.args.self.now c.make.new.self c.args.marks.now c.mark_changed.new.marks c.in-Some.change c.requires.size c.mark_changed.ensures.marks c.make.ensures
