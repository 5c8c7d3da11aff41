use Rattle.std.proofs.Common.{◌||◌, ◌∙◌, ap, false}
use Rattle.std.specs.Result.{result_unwrap_or}
use Rattle.scr_virtual.proofs.TakingLaws.{lines_answer}
use Rattle.scr_virtual.proofs.screens.Virtual.take_lines.Goals as goal

pub returns-clause-screen : goal.returns-clause-screen
returns-clause-screen c i found fits =
    let wished = c.unwrap_or.ensures ∙ ap (λ r. result_unwrap_or r false) (ap (λ p. p.1) c.take_lines.ensures.call ∙ lines_answer c.args.desk.now c.args.win.0 i c.args.part.row c.args.part.rows found fits) in
    λ j. record (c.self.view_is j) { repaint = (c.self.view_is j).repaint || wished j }
