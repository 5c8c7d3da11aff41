-- A run of the code as one of the table.
use Rattle.std.specs.Prelude.{map}
use Rattle.ti_caps.specs.declared.table.Run.{Run}
use Rattle.ti_caps.specs.Table.{Names, run}

-- A run of the code, as a run of the table.
abbrev pub seen : Run → Names
seen r = run r.kind r.first (map (λ s. s.now) r.names.now)
