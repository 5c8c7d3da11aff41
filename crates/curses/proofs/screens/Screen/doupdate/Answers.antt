use Rattle.std.proofs.Common.{subst, IfErr}
use Rattle.curses.specs.Updates.{IsDefinedAnew, begun_before}
use Rattle.curses.proofs.screens.Screen.doupdate.Goals as goal

pub returns-clause-anew : goal.returns-clause-anew
returns-clause-anew g c = subst (λ s. IfErr c.update-sent.result (λ fault. IsDefinedAnew s.profile s.virtual (begun_before fault))) c.self.view_is c.update-sent.ensures.anew
