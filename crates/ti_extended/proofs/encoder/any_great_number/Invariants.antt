use Rattle.std.proofs.Common.{◌≡◌, drop}
use Rattle.std.specs.List.{list_any}
use Rattle.ti_extended.specs.Forms.{is_great_number}
use Rattle.ti_extended.proofs.encoder.any_great_number.Given as goal

abbrev pub invariant-loop-number : goal.invariant-loop-number
invariant-loop-number l = list_any is_great_number (drop l.number-index l.numbers) ≡ list_any is_great_number l.numbers
