use Rattle.std.proofs.Common.{◌≡◌, drop}
use Rattle.std.specs.List.{list_all}
use Rattle.ti_source.specs.Reading.SourceLine.{is_ascii}
use Rattle.ti_source.proofs.reading.line.are_ascii.Given as goal

abbrev pub invariant-loop-b : goal.invariant-loop-b
invariant-loop-b l = list_all is_ascii (drop l.b-index l.bytes) ≡ list_all is_ascii l.bytes
