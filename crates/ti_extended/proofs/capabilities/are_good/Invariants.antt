use Rattle.std.proofs.Common.{◌≡◌, drop}
use Rattle.std.specs.List.{list_all}
use Rattle.ti_extended.specs.Whole.{is_extended_name}
use Rattle.ti_extended.proofs.capabilities.are_good.Given as goal

abbrev pub invariant-loop-name : goal.invariant-loop-name
invariant-loop-name l = list_all is_extended_name (drop l.name-index l.names) ≡ list_all is_extended_name l.names
