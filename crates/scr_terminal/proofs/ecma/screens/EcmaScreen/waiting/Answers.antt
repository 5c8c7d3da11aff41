use Rattle.std.proofs.Common.{arith}
use Rattle.std.proofs.lemmas.Grind.{common_steps}
use Rattle.scr_terminal.proofs.ecma.screens.EcmaScreen.waiting.Goals as goal

pub returns : goal.returns
returns c = grind (arith, common_steps)
