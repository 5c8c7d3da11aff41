use Rattle.ti_source.proofs.PassingLaws.{pass-back, pass-on}
use Rattle.ti_source.proofs.resolving.resolver.entries_pass_on.Goals as goal

pub returns-clause-on : goal.returns-clause-on
returns-clause-on c = pass-on

pub returns-clause-back : goal.returns-clause-back
returns-clause-back c = pass-back
