-- Entries whose first use has all that the others have.
use Rattle.std.specs.Prelude.{◌≡◌, ◌<◌, ℕ, Bool, false, List, ◌∷◌, ◌++◌, Option, Some, None, take, slice_index_or, slice_get, ◌&&◌, nat_lt}
use Rattle.ti_caps.specs.declared.table.Kind.{Kind}
use Rattle.ti_caps.specs.Description.{Description}
use Rattle.ti_caps.specs.Slots.{positions_of}
use Rattle.ti_caps.specs.Table.{or_else}
use Rattle.ti_source.specs.declared.reading.statement.Statement.{Statement}
use Rattle.ti_source.specs.Described.{Described}
use Rattle.ti_source.specs.Resolving.Named.{index_of}
use Rattle.ti_source.specs.Resolving.Uses.{Resolve, value_of_capability}
use Rattle.ti_source.specs.Code.FirstFields.{first_value, ordinal}
use Rattle.ti_source.specs.Code.EntryWalk.{Gathers, Lists}

-- the use with this number names the entry at this index
abbrev pub IsUseAt : List Described → List (List ℕ) → ℕ → ℕ → Type 0
IsUseAt entries uses k i = (name : List ℕ) × (slice_get uses k ≡ Some name) × (index_of entries name ≡ Some i)

-- an index before these
abbrev pub is_before : Option ℕ → ℕ → Bool
is_before None count = false
is_before (Some i) count = nat_lt i count

-- whether one of the first fields is about the capability of a field
abbrev pub is_stated : List (Option ℕ) → ℕ → Statement → Bool
is_stated index count field =
    nat_lt field.slot.0 (positions_of field.kind) && is_before (slice_index_or index (ordinal field.kind field.slot.0) None) count

-- more fields say nothing of a capability of which the first say nothing
abbrev pub Covers : List Statement → List Statement → Type 0
Covers fields more = (kind : Kind) (slot : ℕ) → slot < positions_of kind → or_else (value_of_capability kind slot fields) (value_of_capability kind slot more) ≡ value_of_capability kind slot fields

-- the same of resolved entries
abbrev pub CoversUsed : List Statement → List Description → Type 0
CoversUsed fields used = (kind : Kind) (slot : ℕ) → slot < positions_of kind → or_else (value_of_capability kind slot fields) (first_value used kind slot) ≡ value_of_capability kind slot fields

-- the first k names resolve, and those after the first of them add nothing
pub record AddSoFar (entries : List Described) (names : List (List ℕ)) (k : ℕ) (fields : List Statement) : Type 0 where
  pub first : Description
  pub rest : List Description
  pub resolved : Resolve entries (take k names) (first ∷ rest)
  pub covers : CoversUsed fields rest

-- all names
pub record AddNothing (entries : List Described) (names : List (List ℕ)) (fields : List Statement) : Type 0 where
  pub first : Description
  pub rest : List Description
  pub resolved : Resolve entries names (first ∷ rest)
  pub covers : CoversUsed fields rest

-- the entry's own fields, followed by those of the entry at the index `used`, are all that it has
abbrev pub Leads : List Described → Described → ℕ → Type 0
Leads entries d used = (fields : List Statement) → Lists entries used fields → Gathers entries d (d.statements ++ fields)
