use Rattle.std.proofs.Common.{◌≡◌}
use Rattle.ti_source.specs.Reading.Sources.{numbered}
use Rattle.ti_source.specs.Code.Lines.{unskipped}
use Rattle.ti_source.proofs.reading.lines.next_unskipped.Given as goal

-- the lines that are left are all that is unskipped
abbrev pub invariant-loop-bytes : goal.invariant-loop-bytes
invariant-loop-bytes l =
    (unskipped (numbered l.fn.number l.fn.rest) ≡ unskipped (numbered l.number l.rest)) × (goal.iterator-loop-bytes).can_next l.rest × (goal.iterator-loop-bytes).is_finite l.rest
