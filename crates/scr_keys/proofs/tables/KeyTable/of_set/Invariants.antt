use Rattle.std.proofs.Common.{◌≡◌, None}
use Rattle.scr_keys.specs.Code.Maps.{IsTable}
use Rattle.scr_keys.specs.Tables.{keys_below, too_long}
use Rattle.scr_keys.proofs.tables.KeyTable.of_set.Given as goal

abbrev pub invariant-loop-slot : goal.invariant-loop-slot
invariant-loop-slot l = record {
  keys : l.maps.keys ≡ keys_below l.set l.entry l.slot;
  table : IsTable l.maps;
  few : too_long l.set l.entry ≡ None;
}
