use Rattle.std.proofs.Common.{◌≡◌, ◌+◌, drop}
use Rattle.std.specs.List.{prefix_len}
use Rattle.ti_source.specs.Reading.Field.{is_blank}
use Rattle.ti_source.proofs.reading.field.without_lead.Given as goal

abbrev pub invariant-loop-i : goal.invariant-loop-i
invariant-loop-i l = l.i + prefix_len is_blank (drop l.i l.bytes) ≡ prefix_len is_blank l.bytes
