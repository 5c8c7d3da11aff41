-- Entries that only pass on another: they have no fields of their own and use one other (terminfo(5), "Similar
-- Terminals").
use Rattle.std.specs.Prelude.{◌≡◌, ℕ, List, [], ◌∷◌, Some}
use Rattle.ti_caps.specs.Description.{Description}
use Rattle.ti_source.specs.Described.{Described}
use Rattle.ti_source.specs.Resolving.Named.{found_from}
use Rattle.ti_source.specs.Resolving.Uses.{Resolved}

-- The entry with this name has the names `own`, no fields of its own, and uses only `other`.
pub record IsPassedOn (entries : List Described) (name own other : List ℕ) : Type 0 where
  pub found : ℕ × Described
  pub finds : found_from 0 name entries ≡ Some found
  pub names : found.1.names ≡ own
  pub none : found.1.statements ≡ []
  pub uses : found.1.uses ≡ other ∷ []

-- An entry that passes on another resolves to what the other does, with its own names.
abbrev pub PassOn : Type 0
PassOn =
    (entries : List Described) (name own other : List ℕ) (d : Description) → IsPassedOn entries name own other → Resolved entries other d
    → Resolved entries name (record { names = own; flags = d.flags; numbers = d.numbers; texts = d.texts })

-- If it resolves, so does the other.
abbrev pub PassBack : Type 0
PassBack =
    (entries : List Described) (name own other : List ℕ) (d : Description) → IsPassedOn entries name own other → Resolved entries name d
    → (e : Description) × Resolved entries other e × (d ≡ record { names = own; flags = e.flags; numbers = e.numbers; texts = e.texts })
