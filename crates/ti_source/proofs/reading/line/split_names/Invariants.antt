use Rattle.std.proofs.Common.{◌≡◌, ◌+◌, drop}
use Rattle.std.specs.List.{position_or_len}
use Rattle.ti_source.specs.Reading.SourceLine.{is_comma}
use Rattle.ti_source.proofs.reading.line.split_names.Given as goal

abbrev pub invariant-loop-i : goal.invariant-loop-i
invariant-loop-i l = l.i + position_or_len is_comma (drop l.i l.bytes) ≡ position_or_len is_comma l.bytes
