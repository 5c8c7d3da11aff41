-- The entry of a name with its uses taken in (terminfo(5), "Similar Terminals").
use Rattle.std.specs.Prelude.{◌≡◌, ℕ, Bool, true, false, List, [], ◌∷◌, Option, Some, None, map, slice_get, ◌==◌, if◌then◌else◌}
use Rattle.std.specs.List.{list_any, range_with_len}
use Rattle.ti_caps.specs.declared.table.Kind.{Kind}
use Rattle.ti_caps.specs.declared.table.Kind.TheVariants.{Flag, Number, Text}
use Rattle.ti_caps.specs.Table.{or_else}
use Rattle.ti_caps.specs.Description.{Description, flag_at, number_at, text_at}
use Rattle.ti_source.specs.declared.reading.statement.FieldValue.{FieldValue}
use Rattle.ti_source.specs.declared.reading.statement.FieldValue.TheVariants as field_value
use Rattle.ti_source.specs.declared.reading.statement.Statement.{Statement}
use Rattle.ti_source.specs.Described.{Described}
use Rattle.ti_source.specs.Resolving.Named.{found_from}
use Rattle.ti_source.specs.Reading.Sources.{concerns}
use Rattle.ti_source.specs.declared.faults.SourceFault.{SourceFault}
use Rattle.ti_source.specs.declared.faults.SourceFault.TheVariants.{UnknownName, UseCycle}

-- What an entry says of a capability.
abbrev pub value_of_capability : Kind → ℕ → List Statement → Option FieldValue
value_of_capability kind slot [] = None
value_of_capability kind slot (s ∷ more) = if concerns kind slot s then Some s.field_value else value_of_capability kind slot more

-- The number of the first of these entries that has one.
abbrev pub first_number : ℕ → List Description → Option ℕ
first_number slot [] = None
first_number slot (d ∷ ds) = or_else (number_at d slot) (first_number slot ds)

-- The text of the first of these entries that has one.
abbrev pub first_text : ℕ → List Description → Option (List ℕ)
first_text slot [] = None
first_text slot (d ∷ ds) = or_else (text_at d slot) (first_text slot ds)

-- The entry's own field counts, present or cancelled; else it is present if any use has it.
abbrev pub flag_by : Option FieldValue → Bool → Bool
flag_by (Some field_value.Present) used = true
flag_by None used = used
flag_by _ used = false

-- The entry's own number counts, also cancelled; else the number from the uses.
abbrev pub number_by : Option FieldValue → Option ℕ → Option ℕ
number_by (Some (field_value.Number n)) used = Some n
number_by None used = used
number_by _ used = None

-- The entry's own text counts, also cancelled; else the text from the uses.
abbrev pub text_by : Option FieldValue → Option (List ℕ) → Option (List ℕ)
text_by (Some (field_value.Text t)) used = Some t
text_by None used = used
text_by _ used = None

-- A flag with these fields of the entry's own and these resolved uses.
abbrev pub flag_in : List Statement → List Description → ℕ → Bool
flag_in own uses slot = flag_by (value_of_capability Flag slot own) (list_any (λ u. flag_at u slot) uses)

-- A number with these.
abbrev pub number_in : List Statement → List Description → ℕ → Option ℕ
number_in own uses slot = number_by (value_of_capability Number slot own) (first_number slot uses)

-- A text with these.
abbrev pub text_in : List Statement → List Description → ℕ → Option (List ℕ)
text_in own uses slot = text_by (value_of_capability Text slot own) (first_text slot uses)

-- An entry over the resolved entries that it uses, in their order.
unfoldable pub merged : Described → List Description → Description
merged d uses = record {
  names = d.names;
  flags = map (flag_in d.statements uses) (range_with_len 0 64);
  numbers = map (number_in d.statements uses) (range_with_len 0 64);
  texts = map (text_in d.statements uses) (range_with_len 0 512);
}

-- The resolved entries of these names: each is the entry that its name finds, over the resolved entries of its uses.
pub data Resolve (entries : List Described) : List (List ℕ) → List Description → Type 0 where
  nothing : Resolve entries [] []
  more : {name : List ℕ} {names : List (List ℕ)} {found : ℕ × Described} {used ds : List Description} {d : Description} →
      found_from 0 name entries ≡ Some found → Resolve entries found.1.uses used → d ≡ merged found.1 used → Resolve entries names ds → Resolve entries (name ∷ names) (d ∷ ds)

-- The first fault of these names, from left to right, on a chain of uses: a name that no entry has, a name whose entry
-- is on the chain already, a fault of an entry's uses, or a fault of a later name.
pub data Fault (entries : List Described) : List ℕ → List (List ℕ) → SourceFault → Type 0 where
  unknown : {chain : List ℕ} {name : List ℕ} {names : List (List ℕ)} →
      found_from 0 name entries ≡ None → Fault entries chain (name ∷ names) UnknownName
  cycle : {chain : List ℕ} {name : List ℕ} {names : List (List ℕ)} {found : ℕ × Described} →
      found_from 0 name entries ≡ Some found → list_any (λ j. j == found.0) chain ≡ true → Fault entries chain (name ∷ names) UseCycle
  below : {chain : List ℕ} {name : List ℕ} {names : List (List ℕ)} {found : ℕ × Described} {fault : SourceFault} →
      found_from 0 name entries ≡ Some found → list_any (λ j. j == found.0) chain ≡ false → Fault entries (found.0 ∷ chain) found.1.uses fault → Fault entries chain (name ∷ names) fault
  later : {chain : List ℕ} {name : List ℕ} {names : List (List ℕ)} {d : Description} {fault : SourceFault} →
      Resolve entries (name ∷ []) (d ∷ []) → Fault entries chain names fault → Fault entries chain (name ∷ names) fault

-- This is the resolved entry of a name.
abbrev pub Resolved : List Described → List ℕ → Description → Type 0
Resolved entries name d = Resolve entries (name ∷ []) (d ∷ [])

-- This is the fault of a name without a resolved entry.
abbrev pub Unresolved : List Described → List ℕ → SourceFault → Type 0
Unresolved entries name fault = Fault entries [] (name ∷ []) fault

-- The entry at this index uses no other.
abbrev pub StandsAlone : List Described → Option ℕ → Described → Type 0
StandsAlone entries index d = (i : ℕ) × (index ≡ Some i) × (slice_get entries i ≡ Some d) × (d.uses ≡ [])

-- Names resolve to at most one list of entries.
abbrev pub ResolveOnce : Type 0
ResolveOnce = (entries : List Described) (names : List (List ℕ)) (ds es : List Description) → Resolve entries names ds → Resolve entries names es → ds ≡ es

-- Names have at most one fault.
abbrev pub FaultOnce : Type 0
FaultOnce = (entries : List Described) (names : List (List ℕ)) (f g : SourceFault) → Fault entries [] names f → Fault entries [] names g → f ≡ g

-- Names cannot both resolve and have a fault.
abbrev pub ResolveOrFault : Type 0
ResolveOrFault = (entries : List Described) (names : List (List ℕ)) (ds : List Description) (fault : SourceFault) → Resolve entries names ds → Fault entries [] names fault → ⊥
