use Rattle.std.proofs.Common.{MatchOption, subst}
use Rattle.terminal.specs.Locales.{HasCodeset}
use Rattle.terminal.proofs.LocaleLaws.{codeset_of}
use Rattle.terminal.proofs.locales.codeset_of.Goals as goal

pub returns-in-Some : goal.returns-in-Some
returns-in-Some c = subst (λ r. MatchOption r (HasCodeset c.args.text.now c.args.text.now) (λ both. HasCodeset c.args.text.now both.0.now)) c.in-Some.is (codeset_of c.args.text.now c.split_once.result c.split_once.ensures.cases)

pub returns-in-None : goal.returns-in-None
returns-in-None c = subst (λ r. MatchOption r (HasCodeset c.args.text.now c.args.text.now) (λ both. HasCodeset c.args.text.now both.0.now)) c.in-None.is (codeset_of c.args.text.now c.split_once.result c.split_once.ensures.cases)
