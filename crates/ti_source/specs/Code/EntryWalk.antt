-- What the marks and the list of work of a way through uses stand for.
use Rattle.std.specs.Prelude.{◌≡◌, ◌≢◌, ◌⊎◌, ◌<◌, ℕ, ◌+◌, ◌*◌, Bool, true, false, List, [], ◌∷◌, ◌++◌, Option, Some, None, length, map, reverse, slice_get, slice_set, is_some, ◌==◌, nat_lt, if◌then◌else◌}
use Rattle.std.specs.List.{list_any}
use Rattle.ti_caps.specs.declared.table.Kind.{Kind}
use Rattle.ti_caps.specs.Description.{Description}
use Rattle.ti_caps.specs.Table.{or_else}
use Rattle.ti_source.specs.declared.faults.SourceFault.{SourceFault}
use Rattle.ti_source.specs.declared.faults.SourceFault.TheVariants.{NoMemory}
use Rattle.ti_source.specs.declared.resolving.marks.Mark.{Mark}
use Rattle.ti_source.specs.declared.resolving.marks.Mark.TheVariants.{New, Open, Done, Over, Kept, Faulty}
use Rattle.ti_source.specs.declared.resolving.walk.EntryTask.{EntryTask}
use Rattle.ti_source.specs.declared.resolving.walk.EntryTask.TheVariants.{Visit, Leave}
use Rattle.ti_source.specs.declared.resolving.walk.EntryWalk.{EntryWalk}
use Rattle.ti_source.specs.declared.reading.statement.Statement.{Statement}
use Rattle.ti_source.specs.Described.{Described}
use Rattle.ti_source.specs.Resolving.Named.{index_of}
use Rattle.ti_source.specs.Resolving.Uses.{Resolve, Resolved, Fault, merged, value_of_capability}
use Rattle.ti_source.specs.Code.FirstFields.{first_value, if_present, value_in}
use Rattle.ti_caps.specs.Slots.{positions_of}

-- a visit of each of these names
abbrev pub visits : List Described → List (List ℕ) → List EntryTask
visits entries names = map (λ name. Visit (index_of entries name)) names

-- the entries that are left later: those of the chain on which the next task is
abbrev pub leaves : List EntryTask → List ℕ
leaves [] = []
leaves (Visit p ∷ tasks) = leaves tasks
leaves (Leave i ∷ tasks) = i ∷ leaves tasks

-- the entries that tasks speak of
abbrev pub indices : List EntryTask → List (Option ℕ)
indices [] = []
indices (Visit p ∷ tasks) = p ∷ indices tasks
indices (Leave i ∷ tasks) = Some i ∷ indices tasks

-- what the names of the entry at an index resolve to, and their fault over a chain
abbrev pub ResolvedAt : List Described → Option ℕ → Description → Type 0
ResolvedAt entries p d = (name : List ℕ) → index_of entries name ≡ p → Resolved entries name d

abbrev pub FaultAt : List Described → List ℕ → Option ℕ → SourceFault → Type 0
FaultAt entries chain p fault = (name : List ℕ) → index_of entries name ≡ p → Fault entries chain (name ∷ []) fault

-- the first fault of the tasks: of the next visit over the entries that are left later, or, where that resolves, of those after it
abbrev pub FaultIn : List Described → List EntryTask → SourceFault → Type 0
FaultIn entries [] fault = ⊥
FaultIn entries (Visit p ∷ tasks) fault =
    FaultAt entries (leaves tasks) p fault ⊎ (((d : Description) × ResolvedAt entries p d) × FaultIn entries tasks fault)
FaultIn entries (Leave i ∷ tasks) fault = FaultIn entries tasks fault

-- the steps in which the fields of a resolved entry are listed, those of kept ones in none
abbrev pub steps_of : Option Mark → Option ℕ
steps_of (Some (Done n)) = Some n
steps_of (Some (Over next n)) = Some n
steps_of (Some (Kept k)) = Some 0
steps_of _ = None

-- the same of the entry at an index
abbrev pub steps_at : List Mark → Option ℕ → Option ℕ
steps_at marks None = None
steps_at marks (Some i) = steps_of (slice_get marks i)

abbrev pub known : List Mark → Option ℕ → Bool
known marks p = is_some (steps_at marks p)

abbrev pub AreKnown : List Mark → List (Option ℕ) → Type 0
AreKnown marks [] = Unit {0}
AreKnown marks (p ∷ ps) = (known marks p ≡ true) × AreKnown marks ps

-- known, in fewer steps than these
abbrev pub IsBelow : List Mark → Option ℕ → ℕ → Type 0
IsBelow marks p n = (m : ℕ) × (steps_at marks p ≡ Some m) × (m < n)

abbrev pub AreBelow : List Mark → List (Option ℕ) → ℕ → Type 0
AreBelow marks [] n = 0 < n
AreBelow marks (p ∷ ps) n = IsBelow marks p n × AreBelow marks ps n

-- the steps, as a number
abbrev pub steps_or_0 : Option ℕ → ℕ
steps_or_0 None = 0
steps_or_0 (Some n) = n

abbrev pub larger : ℕ → ℕ → ℕ
larger a b = if nat_lt a b then b else a

-- the most steps of any of these
abbrev pub steps_of_all : List Mark → List (Option ℕ) → ℕ
steps_of_all marks [] = 0
steps_of_all marks (p ∷ ps) = larger (steps_or_0 (steps_at marks p)) (steps_of_all marks ps)

abbrev pub IsAmong : Option ℕ → List (Option ℕ) → Type 0
IsAmong p [] = ⊥
IsAmong p (q ∷ qs) = (p ≡ q) ⊎ IsAmong p qs

-- done, or among those that come first
abbrev pub Within : List Mark → List (Option ℕ) → Option ℕ → Type 0
Within marks first p = (known marks p ≡ true) ⊎ IsAmong p first

abbrev pub AllWithin : List Mark → List (Option ℕ) → List (Option ℕ) → Type 0
AllWithin marks first [] = Unit {0}
AllWithin marks first (p ∷ ps) = Within marks first p × AllWithin marks first ps

-- each entry that is left later is there, and its uses are done by then
abbrev pub Held : List Described → List Mark → List (Option ℕ) → List EntryTask → Type 0
Held entries marks first [] = Unit {0}
Held entries marks first (Visit p ∷ tasks) = Held entries marks (p ∷ first) tasks
Held entries marks first (Leave i ∷ tasks) =
    ((d : Described) × (slice_get entries i ≡ Some d) × AllWithin marks first (map (index_of entries) d.uses)) × Held entries marks (Some i ∷ first) tasks

-- an entry of these fields, which uses no other
abbrev pub of_fields : List ℕ → List Statement → Described
of_fields names fields = record { names = names; statements = fields; uses = [] }

-- fields by which a resolved entry has what it has
pub record StandsFor (names : List ℕ) (fields : List Statement) (d : Description) : Type 0 where
  pub says : (kind : Kind) (slot : ℕ) → slot < positions_of kind → value_of_capability kind slot fields ≡ value_in d kind slot
  pub whole : merged (of_fields names fields) [] ≡ d

-- an entry's fields, and after them those of the resolved entries that it uses, as far as they make a capability present
pub record Gathers (entries : List Described) (d : Described) (fields : List Statement) : Type 0 where
  pub used : List Description
  pub resolved : Resolve entries d.uses used
  pub says : (kind : Kind) (slot : ℕ) → slot < positions_of kind → if_present kind (value_of_capability kind slot fields) ≡ if_present kind (or_else (value_of_capability kind slot d.statements) (first_value used kind slot))

-- fields by which the resolved entry at an index has what it has; some may cancel
pub record Lists (entries : List Described) (i : ℕ) (fields : List Statement) : Type 0 where
  pub entry : Described
  pub at : slice_get entries i ≡ Some entry
  pub gathers : Gathers entries entry fields

-- those of them that take effect
pub record TakeEffect (entries : List Described) (i : ℕ) (fields : List Statement) : Type 0 where
  pub entry : Described
  pub at : slice_get entries i ≡ Some entry
  pub used : List Description
  pub resolved : Resolve entries entry.uses used
  pub stands : StandsFor entry.names fields (merged entry used)

-- these fields, followed by those of the entry at the index `next`, are such fields of the entry at the index i
abbrev pub LeadsTo : List Described → ℕ → List Statement → ℕ → Type 0
LeadsTo entries i own next = (fields : List Statement) → Lists entries next fields → Lists entries i (own ++ fields)

-- the index itself, or `next` if the entry has no fields of its own
abbrev pub IsLedOver : List Described → ℕ → ℕ → ℕ → Type 0
IsLedOver entries i next led = (led ≡ i) ⊎ ((led ≡ next) × ((d : Described) × (slice_get entries i ≡ Some d) × (d.statements ≡ [])))

-- an entry whose fields are its own and those of its uses, each of which takes fewer steps
pub record IsDone (entries : List Described) (marks : List Mark) (i n : ℕ) : Type 0 where
  pub entry : Described
  pub at : slice_get entries i ≡ Some entry
  pub used : List Description
  pub resolved : Resolve entries entry.uses used
  pub below : AreBelow marks (map (index_of entries) entry.uses) n

-- an entry whose fields are its own and those of another, which takes fewer steps
pub record IsOver (entries : List Described) (marks : List Mark) (i next n : ℕ) : Type 0 where
  pub entry : Described
  pub at : slice_get entries i ≡ Some entry
  pub used : List Description
  pub resolved : Resolve entries entry.uses used
  pub below : IsBelow marks (Some next) n
  pub leads : LeadsTo entries i entry.statements next

-- what a mark says of the entry at an index
abbrev pub IsMarkOf : List Described → List Mark → List (List Statement) → ℕ → Mark → Type 0
IsMarkOf entries marks kept i (Done n) = IsDone entries marks i n
IsMarkOf entries marks kept i (Over next n) = IsOver entries marks i next n
IsMarkOf entries marks kept i (Kept k) = (fields : List Statement) × (slice_get kept k ≡ Some fields) × TakeEffect entries i fields
IsMarkOf entries marks kept i _ = Unit {0}

-- what the marks of all entries say
abbrev pub Keeps : List Described → List Mark → List (List Statement) → Type 0
Keeps entries marks kept = (i : ℕ) (mark : Mark) → slice_get marks i ≡ Some mark → IsMarkOf entries marks kept i mark

-- a mark that an entry may have whose uses are resolved
abbrev pub IsLight : List Described → List Mark → List (List Statement) → Described → Mark → Type 0
IsLight entries marks kept d mark = (steps : ℕ) × (steps_of (Some mark) ≡ Some steps) × ((i : ℕ) → slice_get entries i ≡ Some d → IsMarkOf entries marks kept i mark)

-- these fields, followed by fields by which the resolved entry at an index has what it has
abbrev pub Adds : List Described → ℕ → List Statement → List Statement → Type 0
Adds entries i before now = (fields : List Statement) × (now ≡ before ++ fields) × Lists entries i fields

-- the same, followed by an entry's own fields and those of its uses
abbrev pub AddsGathered : List Described → Described → List Statement → List Statement → Type 0
AddsGathered entries d before now = (fields : List Statement) × (now ≡ before ++ fields) × Gathers entries d fields

-- these fields, followed by those that take effect of the entry at an index
abbrev pub AddsEffective : List Described → ℕ → List Statement → List Statement → Type 0
AddsEffective entries i before now = (fields : List Statement) × (now ≡ before ++ fields) × TakeEffect entries i fields

-- an entry that is left later, and is left once: those of its uses that come first are still to be visited, and those before them resolve
pub record Awaits (entries : List Described) (first : List (Option ℕ)) (i : ℕ) (tasks : List EntryTask) : Type 0 where
  pub entry : Described
  pub at : slice_get entries i ≡ Some entry
  pub before : List (List ℕ)
  pub further : List (List ℕ)
  pub uses : entry.uses ≡ before ++ further
  pub used : List Description
  pub resolved : Resolve entries before used
  pub awaited : map (index_of entries) further ≡ first
  pub once : list_any (λ j. j == i) (leaves tasks) ≡ false

-- each entry that is left later awaits the visits before it, and the entry that is left before it
abbrev pub Awaited : List Described → List (Option ℕ) → List EntryTask → Type 0
Awaited entries first [] = Unit {0}
Awaited entries first (Visit p ∷ tasks) = Awaited entries (first ++ p ∷ []) tasks
Awaited entries first (Leave i ∷ tasks) = Awaits entries first i tasks × Awaited entries (Some i ∷ []) tasks

-- what holds between two tasks
pub record IsWalk (entries : List Described) (marks : List Mark) (kept : List (List Statement)) (tasks : List EntryTask) : Type 0 where
  pub sized : length marks ≡ length entries
  pub opened : (i : ℕ) → slice_get marks i ≡ Some Open → list_any (λ j. j == i) (leaves tasks) ≡ true
  pub fresh : (i : ℕ) → slice_get marks i ≡ Some New → list_any (λ j. j == i) (leaves tasks) ≡ false
  pub chain : (i : ℕ) → list_any (λ j. j == i) (leaves tasks) ≡ true → slice_get marks i ≡ Some Open
  pub keeps : Keeps entries marks kept
  pub held : Held entries marks [] tasks
  pub awaited : Awaited entries [] tasks
  pub faulty : (i : ℕ) (fault : SourceFault) → slice_get marks i ≡ Some (Faulty fault) → FaultAt entries [] (Some i) fault

-- how many entries are not entered yet
abbrev pub one_if_new : Mark → ℕ
one_if_new New = 1
one_if_new _ = 0

abbrev pub count_new : List Mark → ℕ
count_new [] = 0
count_new (m ∷ ms) = one_if_new m + count_new ms

-- what a task does: nothing that is known or to be done is lost, the faults of what is left are faults of what was to be done, and less is left
pub record Stepped (entries : List Described) (marks : List Mark) (tasks : List EntryTask) (after : List Mark) (kept : List (List Statement)) (left : List EntryTask) : Type 0 where
  pub walk : IsWalk entries after kept left
  pub lifts : (fault : SourceFault) → FaultIn entries left fault → FaultIn entries tasks fault
  pub carries : (p : Option ℕ) → Within marks (indices tasks) p → Within after (indices left) p
  pub less : 34 * count_new after + length left < 34 * count_new marks + length tasks

-- a task that has a fault: a visit over the entries that are left later, and nothing has changed
pub record StuckAt (entries : List Described) (before : EntryWalk) (task : EntryTask) (fault : SourceFault) (after : EntryWalk) : Type 0 where
  pub same : after ≡ before
  pub index : Option ℕ
  pub visit : task ≡ Visit index
  pub stuck : FaultAt entries (leaves (reverse before.tasks.items)) index fault

-- these entries are followed to a fault
abbrev pub with_fault : SourceFault → List ℕ → List Mark → List Mark
with_fault fault [] marks = marks
with_fault fault (i ∷ is) marks = with_fault fault is (slice_set marks i (Faulty fault))

-- no entry is on a chain, and the marks of the others stay
pub record IsTakenBack (before after : List Mark) : Type 0 where
  pub sized : length after ≡ length before
  pub others : (i : ℕ) (mark : Mark) → slice_get before i ≡ Some mark → mark ≢ Open → slice_get after i ≡ Some mark
  pub stay : (i : ℕ) (mark : Mark) → slice_get after i ≡ Some mark → (mark ≡ New) ⊎ ((slice_get before i ≡ Some mark) × (mark ≢ Open))

-- what a fault leaves of the marks, with these entries on the chain
abbrev pub IsStopped : SourceFault → List ℕ → List Mark → List Mark → Type 0
IsStopped fault chain before after =
    ((fault ≡ NoMemory) × IsTakenBack before after) ⊎ ((fault ≢ NoMemory) × (after ≡ with_fault fault chain before))

-- a walk on which nothing is left to do
abbrev pub IsReady : List Described → EntryWalk → Type 0
IsReady entries walk = IsWalk entries walk.marks.items walk.kept.items [] × (reverse walk.tasks.items ≡ [])
