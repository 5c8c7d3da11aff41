use Rattle.std.proofs.Common.{rules}
use Rattle.ti_caps.proofs.entry.Entry.text.Goals as goal

pub returns-in-Some-Some-clause-value : goal.returns-in-Some-Some-clause-value
returns-in-Some-Some-clause-value c = search rules
