use Rattle.std.proofs.Common.{length}
use Rattle.ti_source.specs.Reading.Field.{fields}
use Rattle.ti_source.specs.Reading.Sources.{numbered_fields}
use Rattle.ti_source.proofs.OpenEntryLaws.{AddsSoFar}
use Rattle.ti_source.proofs.reading.open_entry.OpenEntry.add_fields.Given as goal

-- the fields of the rest are left
abbrev pub invariant-loop-more : goal.invariant-loop-more
invariant-loop-more l =
    AddsSoFar (numbered_fields l.line (fields l.text)) (numbered_fields l.line (fields l.rest)) l.fn.self l.self

abbrev pub decreases-loop-more : goal.decreases-loop-more
decreases-loop-more l = length l.rest
