use Rattle.std.proofs.Common.{rules}
use Rattle.scr_windows.specs.Calls.Reading.{screen_rows_answer}
use Rattle.scr_windows.proofs.desks.Desk.screen_rows.Goals as goal

pub returns : goal.returns
unfolding screen_rows_answer
returns c = search rules
