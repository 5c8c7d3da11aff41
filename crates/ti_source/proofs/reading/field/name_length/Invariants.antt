use Rattle.std.proofs.Common.{◌≡◌, ◌+◌, drop}
use Rattle.ti_source.specs.Reading.Field.{name_length}
use Rattle.ti_source.proofs.reading.field.name_length.Given as goal

abbrev pub invariant-loop-i : goal.invariant-loop-i
invariant-loop-i l = l.i + name_length (drop l.i l.field) ≡ name_length l.field
