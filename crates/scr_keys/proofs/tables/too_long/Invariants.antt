use Rattle.std.proofs.Common.{◌≡◌, None}
use Rattle.scr_keys.specs.Tables.{too_long_below}
use Rattle.scr_keys.proofs.tables.too_long.Given as goal

abbrev pub invariant-loop-slot : goal.invariant-loop-slot
invariant-loop-slot l = record { few : too_long_below l.set l.entry l.slot ≡ None }
