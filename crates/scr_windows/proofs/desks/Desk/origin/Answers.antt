use Rattle.std.proofs.Common.{rules}
use Rattle.scr_windows.specs.Calls.Reading.{origin_answer}
use Rattle.scr_windows.proofs.desks.Desk.origin.Goals as goal

pub returns-in-Some : goal.returns-in-Some
unfolding origin_answer
returns-in-Some c = search rules
