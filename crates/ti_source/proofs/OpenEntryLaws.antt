-- Adding fields to an entry one after another.
use Rattle.std.proofs.Common.{◌≡◌, ◌∙◌, ℕ, min, Bool, true, false, leb, List, [], ◌∷◌, ◌++◌, Result, Ok, Err, refl, ap, sym, subst, inl, inr, append_assoc, append-nil, arith}
use Rattle.std.specs.List.{list_any}
use Rattle.std.proofs.lemmas.Bool.Decides.{nat_tests}
use Rattle.ti_caps.specs.declared.table.Kind.{Kind}
use Rattle.ti_source.specs.declared.faults.SourceFault.{SourceFault}
use Rattle.ti_source.specs.declared.note.Note.{Note}
use Rattle.ti_source.specs.declared.note.Cause.TheVariants.{Repeated, TooGreat}
use Rattle.ti_source.specs.declared.reading.statement.FieldValue.{FieldValue}
use Rattle.ti_source.specs.declared.reading.statement.FieldValue.TheVariants as field_value
use Rattle.ti_source.specs.declared.reading.statement.Statement.{Statement}
use Rattle.ti_source.specs.Reading.Sources.{Meaning, Silent, Doubtful, States, Numberless, Uses, NumberedField, concerns, each_after, field_fault, is_given, is_great, limited, meaning, note_on, unless_faulty}
use Rattle.ti_source.specs.Code.OpenEntry.{OpenEntry, open_entry, with_meant, Adds, AddsMeant}
use Rattle.ti_source.specs.Code.Seen.{capped, capped_value}
use Rattle.ti_source.specs.Result.{Fails}
use Rattle.ti_source.proofs.MeaningLaws.{each-append, given-all, open_entry-more}

-- ---- faults

-- what has an answer has no fault
pub faultless : {A : Type 0} → (es : List SourceFault) (x y : A) → unless_faulty es x ≡ Ok y → (es ≡ []) × (x ≡ y)
faultless [] x y e = (refl, cc)
faultless (f ∷ fs) x y e = cc

-- the first fault is that of more
pub fails-first : {A B : Type 0} → (e : SourceFault) (es later : List SourceFault) (x : A) (y : B) → Fails e (unless_faulty es x) → Fails e (unless_faulty (es ++ later) y)
fails-first e es later x y (inl h) = inl h
fails-first e [] later x y (inr h) = cc
fails-first e (f ∷ fs) later x y (inr h) = let same : f ≡ e = cc in inr (ap Err same)

-- ---- fields one after another

pub Adds-none : {Done : Type 0} → (done : Done) (old : OpenEntry) → Adds [] old (Ok done) old
Adds-none done old names ns before is = ap Ok (ap (open_entry names ns) (append-nil before) ∙ sym is)

pub Adds-then : {Done : Type 0} → (done : Done) (xs ys : List NumberedField) (old mid new : OpenEntry) (r : Result Done SourceFault) → Adds xs old (Ok done) mid → Adds ys mid r new → Adds (xs ++ ys) old r new
Adds-then done xs ys old mid new r one two names ns before is =
    let p = faultless (each_after field_fault before xs) (open_entry names ns (before ++ xs)) mid (one names ns before is) in
    let faults : each_after field_fault before (xs ++ ys) ≡ each_after field_fault (before ++ xs) ys =
    each-append field_fault before xs ys ∙ ap (λ es. es ++ each_after field_fault (before ++ xs) ys) p.0 in
    let all : open_entry names ns (before ++ (xs ++ ys)) ≡ open_entry names ns ((before ++ xs) ++ ys) = ap (open_entry names ns) (sym (append_assoc before xs ys)) in
    rw (faults, all) (two names ns (before ++ xs) (sym p.1))

pub Adds-fails : {Done : Type 0} → (e : SourceFault) (xs ys : List NumberedField) (old mid new : OpenEntry) (r : Result Done SourceFault) → r ≡ Err e → Adds xs old r mid → Adds (xs ++ ys) old r new
Adds-fails e xs ys old mid new r failed one names ns before is =
    let fails : Fails e (unless_faulty (each_after field_fault before xs) (open_entry names ns (before ++ xs))) =
    rw failed at (one names ns before is) in
    rw (failed, each-append field_fault before xs ys) (fails-first e (each_after field_fault before xs) (each_after field_fault (before ++ xs) ys) (open_entry names ns (before ++ xs)) (open_entry names ns (before ++ (xs ++ ys))) fails)

-- one field by what it means
pub Adds-one : {Done : Type 0} → (x : NumberedField) (old new : OpenEntry) (r : Result Done SourceFault) → AddsMeant x.line (meaning x.form) old r new → Adds (x ∷ []) old r new
Adds-one x old new r adds names ns before is =
    let all : with_meant before x.line (meaning x.form) old ≡ open_entry names ns (before ++ x ∷ []) =
    ap (with_meant before x.line (meaning x.form)) is ∙ open_entry-more names ns before x in
    rw (append-nil (field_fault before x), ← all) (adds names ns before is)

-- ---- a field about a capability

abbrev put : List ℕ → List Statement → List (List ℕ) → List Note → OpenEntry
put names ss us ns = record { entry = record { names = names; statements = ss; uses = us }; notes = ns }

-- a number that is too great is so by any amount
pub capped-same : (what : FieldValue) → (limited (capped_value what) ≡ limited what) × (is_great (capped_value what) ≡ is_great what)
capped-same field_value.Present = (refl, refl)
capped-same (field_value.Number n) = by (leb n 32767) refl
  where
    by : (t : Bool) → leb n 32767 ≡ t → (limited (field_value.Number (min n 32768)) ≡ limited (field_value.Number n)) × (is_great (field_value.Number (min n 32768)) ≡ is_great (field_value.Number n))
    by true e = let same : min n 32768 ≡ n = grind (arith, nat_tests) in rw same (refl, refl)
    by false e = let same : min n 32768 ≡ 32768 = grind (arith, nat_tests) in rw (same, e) (refl, refl)
capped-same (field_value.Text text) = (refl, refl)
capped-same field_value.Cancelled = (refl, refl)

-- the capability is stated exactly if it is given
pub stated-is : (names : List ℕ) (ns : List Note) (before : List NumberedField) (old : OpenEntry) (kind : Kind) (slot : ℕ) → old ≡ open_entry names ns before → list_any (concerns kind slot) old.entry.statements ≡ is_given kind slot before
stated-is names ns before old kind slot is =
    ap (λ (e : OpenEntry). list_any (concerns kind slot) e.entry.statements) is ∙ given-all kind slot before

pub repeated-adds : (before : List NumberedField) (line : ℕ) (name : List ℕ) (kind : Kind) (slot : ℕ) (what : FieldValue) (e : OpenEntry) → is_given kind slot before ≡ true → with_meant before line (States name kind slot what) e ≡ record e { notes = e.notes ++ note_on line Repeated name }
repeated-adds before line name kind slot what e given =
    rw given (λ i. put e.entry.names (append-nil e.entry.statements i) (append-nil e.entry.uses i) (e.notes ++ note_on line Repeated name))

abbrev pub with_value : Kind → ℕ → FieldValue → OpenEntry → OpenEntry
with_value kind slot kept e = record e { entry = record e.entry { statements = e.entry.statements ++ (record { kind = kind; slot = record { 0 = slot }; field_value = kept }) ∷ [] } }

pub great-adds : (before : List NumberedField) (line : ℕ) (name : List ℕ) (kind : Kind) (slot : ℕ) (what : FieldValue) (e : OpenEntry) → is_given kind slot before ≡ false → is_great what ≡ true → with_meant before line (States name kind slot what) e ≡ record (with_value kind slot (limited what) e) { notes = e.notes ++ note_on line TooGreat name }
great-adds before line name kind slot what e given great =
    rw (given, great) (λ i. put e.entry.names (e.entry.statements ++ (record { kind = kind; slot = record { 0 = slot }; field_value = limited what }) ∷ []) (append-nil e.entry.uses i) (e.notes ++ note_on line TooGreat name))

pub value-adds : (before : List NumberedField) (line : ℕ) (name : List ℕ) (kind : Kind) (slot : ℕ) (what : FieldValue) (e : OpenEntry) → is_given kind slot before ≡ false → is_great what ≡ false → with_meant before line (States name kind slot what) e ≡ with_value kind slot (limited what) e
value-adds before line name kind slot what e given great =
    rw (given, great) (λ i. put e.entry.names (e.entry.statements ++ (record { kind = kind; slot = record { 0 = slot }; field_value = limited what }) ∷ []) (append-nil e.entry.uses i) (append-nil e.notes i))

-- what the code sees of a statement is one
pub states-adds : {Done : Type 0} → (m : Meaning) (line : ℕ) (name : List ℕ) (kind : Kind) (slot : ℕ) (v : FieldValue) (old new : OpenEntry) (r : Result Done SourceFault) → States name kind slot v ≡ capped m → ((what : FieldValue) → v ≡ capped_value what → AddsMeant line (States name kind slot what) old r new) → AddsMeant line m old r new
states-adds Silent line name kind slot v old new r e adds = cc
states-adds (Doubtful cause n) line name kind slot v old new r e adds = cc
states-adds (States n k s what) line name kind slot v old new r e adds =
    let same_name : name ≡ n = cc in
    let same_kinds : kind ≡ k = cc in
    let same_slot : slot ≡ s = cc in
    let same_value : v ≡ capped_value what = cc in
    let same : States name kind slot what ≡ States n k s what = (λ i. States (same_name i) (same_kinds i) (same_slot i) what) in
    let P : Meaning → Type 0 = λ m. AddsMeant line m old r new in
    subst P same (adds what same_value)
states-adds Numberless line name kind slot v old new r e adds = cc
states-adds (Uses other) line name kind slot v old new r e adds = cc

-- ---- the fields of a line

-- some of these fields were added, and the rest are left
pub record AddsSoFar (all rest : List NumberedField) (old now : OpenEntry) : Type 0 where
  pub done : List NumberedField
  pub cut : all ≡ done ++ rest
  pub adds : Adds done old (Ok (tt {0})) now

pub so_far-start : (all : List NumberedField) (old : OpenEntry) → AddsSoFar all all old old
so_far-start all old = record { done = []; cut = refl; adds = Adds-none (tt {0}) old }

pub so_far-goes : (all rest more : List NumberedField) (x : NumberedField) (old mid new : OpenEntry) → AddsSoFar all rest old mid → rest ≡ x ∷ more → AddsMeant x.line (meaning x.form) mid (Ok (tt {0})) new → AddsSoFar all more old new
so_far-goes all rest more x old mid new h first adds = record {
  done = h.done ++ x ∷ [];
  cut = h.cut ∙ ap (λ r. h.done ++ r) first ∙ sym (append_assoc h.done (x ∷ []) more);
  adds = Adds-then (tt {0}) h.done (x ∷ []) old mid new (Ok (tt {0})) h.adds (Adds-one x mid new (Ok (tt {0})) adds);
}

pub so_far-fails : (all rest more : List NumberedField) (x : NumberedField) (old mid new : OpenEntry) (r : Result (Unit {0}) SourceFault) (e : SourceFault) → AddsSoFar all rest old mid → rest ≡ x ∷ more → r ≡ Err e → AddsMeant x.line (meaning x.form) mid r new → Adds all old r new
so_far-fails all rest more x old mid new r e h first failed adds =
    let one : Adds (h.done ++ x ∷ []) old r new = Adds-then (tt {0}) h.done (x ∷ []) old mid new r h.adds (Adds-one x mid new r adds) in
    let whole : (h.done ++ x ∷ []) ++ more ≡ all = append_assoc h.done (x ∷ []) more ∙ ap (λ q. h.done ++ q) (sym first) ∙ sym h.cut in
    let P : List NumberedField → Type 0 = λ xs. Adds xs old r new in
    subst P whole (Adds-fails e (h.done ++ x ∷ []) more old new new r failed one)

pub so_far-ends : (all rest : List NumberedField) (old now : OpenEntry) → AddsSoFar all rest old now → rest ≡ [] → Adds all old (Ok (tt {0})) now
so_far-ends all rest old now h none =
    let P : List NumberedField → Type 0 = λ xs. Adds xs old (Ok (tt {0})) now in
    subst P (sym (h.cut ∙ ap (λ q. h.done ++ q) none ∙ append-nil h.done)) h.adds
