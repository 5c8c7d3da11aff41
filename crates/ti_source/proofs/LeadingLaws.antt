-- Entries whose first use has all that the others have.
use Rattle.std.proofs.Common.{◌≡◌, ◌∙◌, ℕ, zero, suc, ◌+◌, ◌<◌, Bool, true, false, ◌&&◌, nat_lt, List, [], ◌∷◌, ◌++◌, Option, Some, None, IfSome, option_map, slice_get, slice_index_or, map, take, length, refl, ap, sym, subst, arith}
use Rattle.std.proofs.lemmas.Bool.Decides.{nat_tests}
use Rattle.ti_caps.specs.declared.table.Kind.{Kind}
use Rattle.ti_caps.specs.Description.{Description}
use Rattle.ti_caps.specs.Slots.{positions_of}
use Rattle.ti_caps.specs.Table.{or_else}
use Rattle.ti_source.specs.declared.reading.statement.FieldValue.{FieldValue}
use Rattle.ti_source.specs.declared.reading.statement.Statement.{Statement}
use Rattle.ti_source.specs.declared.resolving.marks.Mark.{Mark}
use Rattle.ti_source.specs.Described.{Described}
use Rattle.ti_source.specs.Reading.Sources.{concerns}
use Rattle.ti_source.specs.Resolving.Named.{index_of}
use Rattle.ti_source.specs.Resolving.Uses.{Resolve, merged, more, nothing, value_of_capability}
use Rattle.ti_source.specs.Code.FirstFields.{IsIndex, first_of, first_value, if_present, ordinal, value_in}
use Rattle.ti_source.specs.Code.Leading.{AddNothing, AddSoFar, Covers, IsUseAt, Leads, is_before, is_stated}
use Rattle.ti_source.specs.Code.EntryWalk.{AreKnown, TakeEffect, known}
use Rattle.ti_source.proofs.ChainLaws.{resolve-append}
use Rattle.ti_source.proofs.EffectiveLaws.{field_value-of-first}
use Rattle.ti_source.proofs.FirstFieldLaws.{same-ordinal}
use Rattle.ti_source.proofs.GatherLaws.{first-last, gathers-one, or-or, present-or, says-present}
use Rattle.ti_source.proofs.IndexLaws.{get-within, take-at}
use Rattle.ti_source.proofs.MergedBackLaws.{value_of_capability-append, or-none}
use Rattle.ti_source.proofs.OnceLaws.{resolve-once}
use Rattle.ti_source.proofs.StandsForLaws.{merged-says}
use Rattle.ti_source.proofs.TaskLaws.{resolved-at}

-- ---- one field more

or-some : (o a : Option FieldValue) (v : FieldValue) → o ≡ Some v → or_else o a ≡ o
or-some o a v is = ap (λ x. or_else x a) is ∙ sym is

-- some field is about the capability of a field that is stated
stated-value : (fields : List Statement) (index : List (Option ℕ)) (s : Statement) (kind : Kind) (slot : ℕ) → IsIndex fields index → is_stated index (length fields) s ≡ true → slot < positions_of kind → concerns kind slot s ≡ true → (v : FieldValue) × (value_of_capability kind slot fields ≡ Some v)
stated-value fields index s kind slot is stated small on =
    let ordinals : ordinal kind slot ≡ ordinal s.kind s.slot.0 = same-ordinal kind s.kind slot s.slot.0 on in
    there (slice_index_or index (ordinal kind slot) None) refl (ap (λ o. is_before (slice_index_or index o None) (length fields)) ordinals ∙ second (nat_lt s.slot.0 (positions_of s.kind)) (is_before (slice_index_or index (ordinal s.kind s.slot.0) None) (length fields)) stated)
  where
    second : (a b : Bool) → (a && b) ≡ true → b ≡ true
    second true b e = e
    second false b e = cc

    there : (o : Option ℕ) → slice_index_or index (ordinal kind slot) None ≡ o → is_before o (length fields) ≡ true → (v : FieldValue) × (value_of_capability kind slot fields ≡ Some v)
    there None at before = cc
    there (Some j) at before =
        let lt : j < length fields = grind (arith, nat_tests) in
        let field = get-within fields j lt in
        let first : first_of kind slot fields ≡ Some field.0 = sym (is.first kind slot small) ∙ rw at (field.1) in
        (field.0.field_value, field_value-of-first kind slot fields ∙ ap (option_map (λ (x : Statement). x.field_value)) first)

pub covers-none : (fields extra : List Statement) → extra ≡ [] → Covers fields extra
covers-none fields extra none kind slot small = rw none (or-none (value_of_capability kind slot fields))

pub covers-push : (fields extra : List Statement) (index : List (Option ℕ)) (i : ℕ) (s : Statement) → IsIndex fields index → slice_get extra i ≡ Some s → is_stated index (length fields) s ≡ true → Covers fields (take i extra) → Covers fields (take (i + 1) extra)
covers-push fields extra index i s is at stated covers kind slot small =
    ap (λ ss. or_else (value_of_capability kind slot fields) (value_of_capability kind slot ss)) (take-at extra i s at)
    ∙ ap (or_else (value_of_capability kind slot fields)) (value_of_capability-append kind slot (take i extra) (s ∷ []))
    ∙ by (concerns kind slot s) refl
  where
    by : (t : Bool) → concerns kind slot s ≡ t → or_else (value_of_capability kind slot fields) (or_else (value_of_capability kind slot (take i extra)) (value_of_capability kind slot (s ∷ []))) ≡ value_of_capability kind slot fields
    by true on =
        let had = stated-value fields index s kind slot is stated small on in
        or-some (value_of_capability kind slot fields) _ had.0 had.1
    by false off =
        rw off (ap (or_else (value_of_capability kind slot fields)) (or-none (value_of_capability kind slot (take i extra))) ∙ covers kind slot small)

-- ---- one use more

pub add-first : (entries : List Described) (names : List (List ℕ)) (name : List ℕ) (i : ℕ) (fields some : List Statement) → slice_get names 0 ≡ Some name → index_of entries name ≡ Some i → TakeEffect entries i some → AddSoFar entries names 1 fields
add-first entries names name i fields some at index t =
    record {
      first = merged t.entry t.used;
      rest = [];
      resolved = subst (λ ns. Resolve entries ns (merged t.entry t.used ∷ [])) (sym (take-at names 0 name at)) (resolved-at entries i t.entry t.used t.at t.resolved name index);
      covers = λ kind slot small. or-none (value_of_capability kind slot fields);
    }

pub add-next : (entries : List Described) (names : List (List ℕ)) (k i : ℕ) (name : List ℕ) (fields extra : List Statement) → AddSoFar entries names k fields → slice_get names k ≡ Some name → index_of entries name ≡ Some i → TakeEffect entries i extra → Covers fields extra → AddSoFar entries names (k + 1) fields
add-next entries names k i name fields extra so at index t covers =
    let one = merged t.entry t.used in
    record {
      first = so.first;
      rest = so.rest ++ one ∷ [];
      resolved = subst (λ ns. Resolve entries ns (so.first ∷ so.rest ++ one ∷ [])) (sym (take-at names k name at)) (resolve-append so.resolved (resolved-at entries i t.entry t.used t.at t.resolved name index));
      covers = λ kind slot small.
          ap (or_else (value_of_capability kind slot fields)) (first-last so.rest one kind slot)
          ∙ sym (or-or (value_of_capability kind slot fields) (first_value so.rest kind slot) (value_in one kind slot))
          ∙ ap (λ o. or_else o (value_in one kind slot)) (so.covers kind slot small)
          ∙ ap (or_else (value_of_capability kind slot fields)) (sym (t.stands.says kind slot small))
          ∙ covers kind slot small;
    }

pub add-all : (entries : List Described) (names : List (List ℕ)) (k : ℕ) (fields : List Statement) → take k names ≡ names → AddSoFar entries names k fields → AddNothing entries names fields
add-all entries names k fields whole so =
    record {
      first = so.first;
      rest = so.rest;
      resolved = subst (λ ns. Resolve entries ns (so.first ∷ so.rest)) whole so.resolved;
      covers = so.covers;
    }

-- ---- the first use

-- what a name resolves to by itself and before others
first-is : (entries : List Described) (name : List ℕ) (names : List (List ℕ)) (one first : Description) (rest : List Description) → Resolve entries (name ∷ []) (one ∷ []) → Resolve entries (name ∷ names) (first ∷ rest) → first ≡ one
first-is entries name names one first rest alone all = by all refl refl
  where
    by : {ns : List (List ℕ)} {ds : List Description} → Resolve entries ns ds → ns ≡ name ∷ names → ds ≡ first ∷ rest → first ≡ one
    by nothing p q = cc
    by (more {name = n} {names = ms} {found = found} {used = used} {ds = es} {d = e} f u is r) p q =
        let named : n ≡ name = cc in
        let same : e ≡ first = cc in
        let here : Resolve entries (name ∷ []) (e ∷ []) = more {found = found} {used = used} (rw (← named) f) u is nothing in
        let both : e ∷ [] ≡ one ∷ [] = resolve-once here alone in
        let last : e ≡ one = cc in
        sym same ∙ last

pub leads-first : (entries : List Described) (d : Described) (name : List ℕ) (names : List (List ℕ)) (i : ℕ) (some fields : List Statement) → d.uses ≡ name ∷ names → index_of entries name ≡ Some i → TakeEffect entries i some → fields ≡ d.statements ++ some → AddNothing entries d.uses fields → Leads entries d i
leads-first entries d name names i some fields uses index t all add extra l =
    let one = merged t.entry t.used in
    let own = resolved-at entries i t.entry t.used t.at t.resolved in
    let first : add.first ≡ one = first-is entries name names one add.first add.rest (own name index) (subst (λ ns. Resolve entries ns (add.first ∷ add.rest)) uses add.resolved) in
    let listed = resolved-at entries i l.entry l.gathers.used l.at l.gathers.resolved in
    let both : merged l.entry l.gathers.used ∷ [] ≡ one ∷ [] = resolve-once (listed name index) (own name index) in
    let same : merged l.entry l.gathers.used ≡ one = cc in
    record {
      used = add.first ∷ add.rest;
      resolved = add.resolved;
      says = λ kind slot small.
          let mine = value_of_capability kind slot d.statements in
          let has : value_of_capability kind slot fields ≡ or_else mine (value_in one kind slot) = ap (value_of_capability kind slot) all ∙ value_of_capability-append kind slot d.statements some ∙ ap (or_else mine) (t.stands.says kind slot small) in
          ap (if_present kind) (value_of_capability-append kind slot d.statements extra)
          ∙ present-or kind mine (value_of_capability kind slot extra) (value_in one kind slot) (l.gathers.says kind slot small ∙ merged-says l.entry l.gathers.used kind slot small ∙ ap (λ x. value_in x kind slot) same ∙ sym (says-present one kind slot))
          ∙ ap (if_present kind) (sym has ∙ sym (add.covers kind slot small) ∙ ap (λ o. or_else o (first_value add.rest kind slot)) has ∙ or-or mine (value_in one kind slot) (first_value add.rest kind slot) ∙ ap (λ x. or_else mine (or_else (value_in x kind slot) (first_value add.rest kind slot))) (sym first));
    }

-- a use that is known
pub known-use : (entries : List Described) (marks : List Mark) (us : List (List ℕ)) (k i : ℕ) → AreKnown marks (map (index_of entries) us) → IsUseAt entries us k i → known marks (Some i) ≡ true
known-use entries marks us k i all (name, at, index) = sym (ap (known marks) index) ∙ by us k all at
  where
    by : (vs : List (List ℕ)) (m : ℕ) → AreKnown marks (map (index_of entries) vs) → slice_get vs m ≡ Some name → known marks (index_of entries name) ≡ true
    by [] m h e = cc
    by (v ∷ vs) zero h e = let same : v ≡ name = cc in ap (λ n. known marks (index_of entries n)) (sym same) ∙ h.0
    by (v ∷ vs) (suc m) h e = by vs m h.1 e

-- the first of the uses
pub uses-first : (us : List (List ℕ)) (name : List ℕ) → slice_get us 0 ≡ Some name → (rest : List (List ℕ)) × (us ≡ name ∷ rest)
uses-first [] name e = cc
uses-first (u ∷ us) name e = let same : u ≡ name = cc in (us, ap (λ x. x ∷ us) same)

pub leads-use : (entries : List Described) (d : Described) (i : ℕ) (some fields : List Statement) → IsUseAt entries d.uses 0 i → TakeEffect entries i some → fields ≡ d.statements ++ some → AddNothing entries d.uses fields → Leads entries d i
leads-use entries d i some fields (name, at, index) t all add =
    let u = uses-first d.uses name at in
    leads-first entries d name u.0 i some fields u.1 index t all add

pub add-first-use : (entries : List Described) (us : List (List ℕ)) (i : ℕ) (fields some : List Statement) → IsUseAt entries us 0 i → TakeEffect entries i some → AddSoFar entries us 1 fields
add-first-use entries us i fields some (name, at, index) t = add-first entries us name i fields some at index t

pub add-next-use : (entries : List Described) (us : List (List ℕ)) (k i : ℕ) (fields extra : List Statement) → AddSoFar entries us k fields → IsUseAt entries us k i → TakeEffect entries i extra → Covers fields extra → AddSoFar entries us (k + 1) fields
add-next-use entries us k i fields extra so (name, at, index) t covers = add-next entries us k i name fields extra so at index t covers

-- an entry that has one use
pub leads-only : (entries : List Described) (d : Described) (name : List ℕ) (i : ℕ) → d.uses ≡ name ∷ [] → index_of entries name ≡ Some i → Leads entries d i
leads-only entries d name i uses index fields l = gathers-one entries d name i fields uses index l

pub some-of : {A : Type 0} → (o : Option A) (Q : A → Type 0) → ((x : A) → o ≡ Some x → Q x) → IfSome o Q
some-of None Q h = tt
some-of (Some x) Q h = h x refl
