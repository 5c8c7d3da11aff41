-- Why extended capabilities are none that an entry can have.
use Rattle.std.specs.Prelude.{◌+◌, ◌&&◌, Option, Some, None, length, nat_le, if◌then◌else◌}
use Rattle.std.specs.List.{list_all}
use Rattle.ti_extended.specs.Whole.{Capabilities, are_distinct, is_extended_name, is_small, is_whole_text}
use Rattle.ti_extended.specs.declared.faults.WholeFault.{WholeFault}
use Rattle.ti_extended.specs.declared.faults.WholeFault.TheVariants.{BadName, BadValue, RepeatedName}

-- The first of these: a name is bad, two are the same, there are more values than names or one is bad.
abbrev pub capabilities_refusal : Capabilities → Option WholeFault
capabilities_refusal e =
    if list_all is_extended_name e.names then
    (if are_distinct e.names then
    (if nat_le (length e.numbers + length e.texts) (length e.names) && (list_all is_small e.numbers && list_all is_whole_text e.texts) then None
    else Some BadValue)
    else Some RepeatedName)
    else Some BadName
