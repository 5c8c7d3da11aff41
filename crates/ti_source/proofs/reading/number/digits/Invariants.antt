use Rattle.std.proofs.Common.{◌≡◌, ◌≤◌, drop, option_map}
use Rattle.ti_source.specs.Reading.Number.{digits_after}
use Rattle.ti_source.proofs.NumberLaws.{cut}
use Rattle.ti_source.proofs.reading.number.digits.Given as goal

abbrev pub invariant-loop-b : goal.invariant-loop-b
invariant-loop-b l =
    (l.value ≤ l.most) × (option_map (cut l.most) (digits_after l.base l.value (drop l.b-index l.bytes)) ≡ option_map (cut l.most) (digits_after l.base 0 l.bytes))
