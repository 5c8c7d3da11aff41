use Rattle.std.proofs.Common.{length}
use Rattle.ti_source.specs.Reading.Sources.{source_of}
use Rattle.ti_source.proofs.BlockLaws.{ReadSoFar}
use Rattle.ti_source.proofs.reading.reader.read_whole.Given as goal

abbrev pub invariant-loop-number : goal.invariant-loop-number
invariant-loop-number l = ReadSoFar (source_of l.bytes) l.source l.lines

abbrev pub decreases-loop-number : goal.decreases-loop-number
decreases-loop-number l = length l.lines
