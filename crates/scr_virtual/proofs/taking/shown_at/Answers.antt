use Rattle.std.proofs.Common.{rules}
use Rattle.scr_virtual.proofs.taking.shown_at.Goals as goal

pub returns : goal.returns
returns c = search rules
