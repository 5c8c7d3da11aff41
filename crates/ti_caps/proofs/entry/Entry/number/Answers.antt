use Rattle.std.proofs.Common.{rules}
use Rattle.ti_caps.proofs.entry.Entry.number.Goals as goal

pub returns-in-Some-clause-value : goal.returns-in-Some-clause-value
returns-in-Some-clause-value c = search rules

pub returns-in-None-clause-value : goal.returns-in-None-clause-value
returns-in-None-clause-value c = search rules
