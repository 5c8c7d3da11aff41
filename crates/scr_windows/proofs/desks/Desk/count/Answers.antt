use Rattle.std.proofs.Common.{arith, rules}
use Rattle.std.proofs.lemmas.Grind.{common_steps}
use Rattle.scr_windows.proofs.desks.Desk.count.Goals as goal

pub returns-clause-count : goal.returns-clause-count
returns-clause-count c = search rules

pub returns-clause-few : goal.returns-clause-few
returns-clause-few c = grind (arith, common_steps)
