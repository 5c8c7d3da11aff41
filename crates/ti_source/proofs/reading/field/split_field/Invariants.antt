use Rattle.std.proofs.Common.{◌≡◌, take, drop}
use Rattle.ti_source.specs.Reading.Field.{fields, fields_after}
use Rattle.ti_source.proofs.FieldLaws.{with_front}
use Rattle.ti_source.proofs.reading.field.split_field.Given as goal

-- the bytes so far are the beginning of the first field
abbrev pub invariant-loop-i : goal.invariant-loop-i
invariant-loop-i l = fields l.bytes ≡ with_front (take l.i l.bytes) (fields_after l.taken (drop l.i l.bytes))
