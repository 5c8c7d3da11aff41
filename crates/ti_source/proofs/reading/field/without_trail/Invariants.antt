use Rattle.std.proofs.Common.{◌≡◌, ◌≤◌, ◌-◌, take, length}
use Rattle.std.specs.List.{suffix_len}
use Rattle.ti_source.specs.Reading.Field.{is_blank}
use Rattle.ti_source.proofs.reading.field.without_trail.Given as goal

abbrev pub invariant-loop-end : goal.invariant-loop-end
invariant-loop-end l =
    (l.end ≤ length l.bytes) × (l.end - suffix_len is_blank (take l.end l.bytes) ≡ length l.bytes - suffix_len is_blank l.bytes)

abbrev pub decreases-loop-end : goal.decreases-loop-end
decreases-loop-end l = l.end
