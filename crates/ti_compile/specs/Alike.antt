-- Entries that are alike except for their names.
use Rattle.std.specs.Prelude.{◌≡◌, ℕ, List}
use Rattle.ti_binary.specs.Canonical.{renamed}
use Rattle.ti_caps.specs.Description.{Description}
use Rattle.ti_source.specs.Described.{Described}
use Rattle.ti_source.specs.Resolving.Uses.{Resolved}
use Rattle.ti_compile.specs.declared.alike.Alike.{Alike}

-- A name resolves to this entry, except for the names.
abbrev pub IsAlike : List Described → List ℕ → Description → Type 0
IsAlike entries name entry = (d : Description) × Resolved entries name d × (d ≡ renamed entry d.names)

-- The two names at hand both do.
abbrev pub AreAlike : List Described → Alike → Type 0
AreAlike entries alike = IsAlike entries alike.used.now alike.resolved × IsAlike entries alike.last.now alike.resolved
