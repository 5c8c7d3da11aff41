use Rattle.std.proofs.Common.{length}
use Rattle.ti_source.specs.Reading.Field.{fields}
use Rattle.ti_source.specs.Reading.Sources.{numbered_fields}
use Rattle.ti_source.proofs.BlockLaws.{BlockSoFar}
use Rattle.ti_source.proofs.reading.open_entry.OpenEntry.add_block.Given as goal

abbrev pub invariant-loop-number : goal.invariant-loop-number
invariant-loop-number l =
    BlockSoFar (numbered_fields l.line (fields l.text)) l.fn.self l.fn.lines l.self l.lines

abbrev pub decreases-loop-number : goal.decreases-loop-number
decreases-loop-number l = length l.lines
