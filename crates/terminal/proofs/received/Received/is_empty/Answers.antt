-- Between two places that differ there is something.
use Rattle.std.proofs.Common.{◌∙◌, ap, arith, length, length-drop}
use Rattle.std.proofs.lemmas.Bool.Decides.{nat_tests}
use Rattle.std.proofs.lemmas.List.{length-take}
use Rattle.terminal.proofs.received.Received.is_empty.Goals as goal

pub returns-clause-waits : goal.returns-clause-waits
returns-clause-waits c = λ differ empty.
    let none = ap length (c.self.view_is ∙ empty) in
    grind (arith, nat_tests, length-drop, length-take)
