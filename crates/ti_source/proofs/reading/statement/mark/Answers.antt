use Rattle.ti_source.specs.Code.FirstFields.{ordinal}
use Rattle.ti_source.proofs.MarkLaws.{at-set}
use Rattle.ti_source.proofs.reading.statement.mark.Goals as goal

pub returns-clause-marked : goal.returns-clause-marked
returns-clause-marked c = rw c.put_mark.ensures (at-set c.if-is_empty.marks.items (ordinal c.args.kind c.args.slot.0))
