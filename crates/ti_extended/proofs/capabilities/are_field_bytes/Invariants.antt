use Rattle.std.proofs.Common.{◌≡◌, drop}
use Rattle.std.specs.List.{list_all}
use Rattle.ti_extended.specs.Whole.{is_field_byte}
use Rattle.ti_extended.proofs.capabilities.are_field_bytes.Given as goal

abbrev pub invariant-loop-b : goal.invariant-loop-b
invariant-loop-b l = list_all is_field_byte (drop l.b-index l.name) ≡ list_all is_field_byte l.name
