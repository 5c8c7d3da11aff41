use Rattle.std.proofs.Common.{arith}
use Rattle.std.proofs.lemmas.Grind.{common_steps}
use Rattle.curses.proofs.sending.drop_front.Goals as goal

pub returns-then-count-len-clause-rest : goal.returns-then-count-len-clause-rest
returns-then-count-len-clause-rest c = grind (arith, common_steps)
