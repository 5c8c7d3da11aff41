use Rattle.std.proofs.Common.{rules}
use Rattle.ti_caps.proofs.entry.Entry.flag.Goals as goal

pub returns-in-None : goal.returns-in-None
returns-in-None c = search rules
