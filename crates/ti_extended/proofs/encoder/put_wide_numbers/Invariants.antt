use Rattle.std.proofs.Common.{◌≡◌, ◌++◌, take}
use Rattle.std.specs.List.{flat_map}
use Rattle.byteorder.specs.Endian.{little_bytes}
use Rattle.ti_extended.specs.Forms.{wide_number}
use Rattle.ti_extended.proofs.encoder.put_wide_numbers.Given as goal

abbrev pub invariant-loop-number : goal.invariant-loop-number
invariant-loop-number l = l.out.items ≡ l.fn.out.items ++ flat_map (λ o. little_bytes 4 (wide_number o)) (take l.number-index l.numbers)
