use Rattle.std.proofs.Common.{rules}
use Rattle.ti_param.proofs.marks.Marks.open_one.Goals as goal

pub returns-then-self-eq0 : goal.returns-then-self-eq0
returns-then-self-eq0 c = search rules
