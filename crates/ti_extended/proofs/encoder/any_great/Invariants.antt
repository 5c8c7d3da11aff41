use Rattle.std.proofs.Common.{◌≡◌, drop}
use Rattle.std.specs.List.{list_any}
use Rattle.ti_extended.specs.Forms.{is_great}
use Rattle.ti_extended.proofs.encoder.any_great.Given as goal

abbrev pub invariant-loop-n : goal.invariant-loop-n
invariant-loop-n l = list_any is_great (drop l.n-index l.numbers) ≡ list_any is_great l.numbers
