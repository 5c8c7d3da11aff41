use Rattle.std.proofs.Common.{rules}
use Rattle.scr_virtual.proofs.ranges.Ranges.rows.Goals as goal

pub returns-in-Some-clause-others : goal.returns-in-Some-clause-others
returns-in-Some-clause-others c = search rules
