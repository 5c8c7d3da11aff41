-- Entries that are made of fields, from the last field to the first.
use Rattle.std.specs.Prelude.{◌≡◌, ℕ, List, [], ◌∷◌}
use Rattle.ti_caps.specs.Description.{Description}
use Rattle.ti_source.specs.declared.reading.statement.Statement.{Statement}
use Rattle.ti_source.specs.Resolving.Uses.{merged}
use Rattle.ti_source.specs.Code.EntryWalk.{of_fields}

-- an entry of some fields becomes that of one more before them
abbrev pub IsLaid : Statement → Description → Description → Type 0
IsLaid field old new = (names : List ℕ) (further : List Statement) → old ≡ merged (of_fields names further) [] → new ≡ merged (of_fields names (field ∷ further)) []
