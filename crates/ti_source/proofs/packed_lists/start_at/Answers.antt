use Rattle.std.proofs.Common.{sym}
use Rattle.ti_source.proofs.PartLaws.{end-before, start-first}
use Rattle.ti_source.proofs.packed_lists.start_at.Goals as goal

pub returns-then-i-eq0 : goal.returns-then-i-eq0
returns-then-i-eq0 c = rw c.if-i-eq0.true (sym (start-first 0 c.args.ends.now))

pub returns : goal.returns
returns c = end-before c.args.i c.args.ends.now _ c.if-i-eq0.false c.requires
