-- For each capability the field that comes first for it, by its index among some; which fields take effect; what a resolved entry says.
use Rattle.std.specs.Prelude.{ℕ, ◌+◌, ◌<◌, ◌≡◌, Bool, true, false, List, [], ◌∷◌, Option, Some, None, length, slice_get, slice_index_or, slice_set, not, ◌&&◌, nat_lt, if◌then◌else◌}
use Rattle.ti_caps.specs.declared.table.Kind.{Kind}
use Rattle.ti_caps.specs.declared.table.Kind.TheVariants.{Flag, Number, Text}
use Rattle.ti_caps.specs.Description.{Description, flag_at, number_at, text_at}
use Rattle.ti_caps.specs.Table.{or_else}
use Rattle.ti_caps.specs.Slots.{positions_of}
use Rattle.ti_source.specs.declared.reading.statement.FieldValue.{FieldValue}
use Rattle.ti_source.specs.declared.reading.statement.FieldValue.TheVariants as field_value
use Rattle.ti_source.specs.declared.reading.statement.Statement.{Statement}
use Rattle.ti_source.specs.Reading.Sources.{concerns}
use Rattle.ti_source.specs.Resolving.Uses.{value_of_capability}

-- where a capability is among those of all kinds
abbrev pub ordinal : Kind → ℕ → ℕ
ordinal Flag slot = slot
ordinal Number slot = 64 + slot
ordinal Text slot = 128 + slot

-- the first of some fields that is about a capability
abbrev pub first_of : Kind → ℕ → List Statement → Option Statement
first_of kind slot [] = None
first_of kind slot (s ∷ more) = if concerns kind slot s then Some s else first_of kind slot more

-- the field at an index
abbrev pub field_at : List Statement → Option ℕ → Option Statement
field_at fields None = None
field_at fields (Some i) = slice_get fields i

-- an index has for each capability where the first of some of the fields that is about it
abbrev pub Indexes : List Statement → List Statement → List (Option ℕ) → Type 0
Indexes fields some index = (kind : Kind) (slot : ℕ) → slot < positions_of kind → field_at fields (slice_index_or index (ordinal kind slot) None) ≡ first_of kind slot some

-- the same of all of them
pub record IsIndex (fields : List Statement) (index : List (Option ℕ)) : Type 0 where
  pub long : length index ≡ 640
  pub first : Indexes fields fields index

-- what makes a capability present
abbrev pub is_present : Kind → FieldValue → Bool
is_present Flag field_value.Present = true
is_present Number (field_value.Number n) = true
is_present Text (field_value.Text t) = true
is_present kind s = false

abbrev pub if_present : Kind → Option FieldValue → Option FieldValue
if_present kind None = None
if_present kind (Some s) = if is_present kind s then Some s else None

-- whether a field is about a capability that is not marked
abbrev pub is_free : List Bool → Statement → Bool
is_free marks field = nat_lt field.slot.0 (positions_of field.kind) && not (slice_index_or marks (ordinal field.kind field.slot.0) true)

-- whether it is, and makes that capability present
abbrev pub takes_effect : List Bool → Statement → Bool
takes_effect marks field = is_free marks field && is_present field.kind field.field_value

-- the marks, with that of the field's capability
abbrev pub with_mark : List Bool → Statement → List Bool
with_mark marks field = if is_free marks field then slice_set marks (ordinal field.kind field.slot.0) true else marks

-- the fields that take effect say of each capability what all do, where that makes it present, and nothing else
abbrev pub AreEffective : List Statement → List Statement → Type 0
AreEffective fields some = (kind : Kind) (slot : ℕ) → slot < positions_of kind → value_of_capability kind slot some ≡ if_present kind (value_of_capability kind slot fields)

-- what a resolved entry says of a capability
abbrev pub flag_value : Bool → Option FieldValue
flag_value false = None
flag_value true = Some field_value.Present

abbrev pub number_value : Option ℕ → Option FieldValue
number_value None = None
number_value (Some n) = Some (field_value.Number n)

abbrev pub text_value : Option (List ℕ) → Option FieldValue
text_value None = None
text_value (Some text) = Some (field_value.Text text)

abbrev pub value_in : Description → Kind → ℕ → Option FieldValue
value_in d Flag slot = flag_value (flag_at d slot)
value_in d Number slot = number_value (number_at d slot)
value_in d Text slot = text_value (text_at d slot)

-- the first of these that is about it
abbrev pub first_value : List Description → Kind → ℕ → Option FieldValue
first_value [] kind slot = None
first_value (d ∷ ds) kind slot = or_else (value_in d kind slot) (first_value ds kind slot)
