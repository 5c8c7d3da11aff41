use Rattle.std.proofs.Common.{rules}
use Rattle.ti_caps.proofs.entry.Entry.set_text.Goals as goal

pub returns-clause-ok : goal.returns-clause-ok
returns-clause-ok c = search rules
