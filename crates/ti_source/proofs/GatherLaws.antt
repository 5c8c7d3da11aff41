-- The fields of an entry, and after them those of the resolved entries that it uses.
use Rattle.std.proofs.Common.{◌≡◌, ◌∙◌, ℕ, ◌<◌, Bool, true, false, List, [], ◌∷◌, ◌++◌, Option, Some, None, is_some, slice_get, map, refl, ap, sym, subst, append_assoc, append-nil}
use Rattle.ti_caps.specs.declared.table.Kind.{Kind}
use Rattle.ti_caps.specs.declared.table.Kind.TheVariants.{Flag, Number, Text}
use Rattle.ti_caps.specs.Description.{Description, flag_at, number_at, text_at}
use Rattle.ti_caps.specs.Table.{or_else}
use Rattle.ti_source.specs.declared.reading.statement.FieldValue.{FieldValue}
use Rattle.ti_source.specs.declared.reading.statement.Statement.{Statement}
use Rattle.ti_source.specs.declared.resolving.marks.Mark.{Mark}
use Rattle.ti_source.specs.declared.resolving.marks.Mark.TheVariants.{New, Open, Done, Over, Kept, Faulty}
use Rattle.ti_source.specs.Described.{Described}
use Rattle.ti_source.specs.Resolving.Named.{index_of}
use Rattle.ti_source.specs.Resolving.Uses.{Resolve, nothing, merged, value_of_capability}
use Rattle.ti_source.specs.Code.FirstFields.{AreEffective, first_value, flag_value, if_present, number_value, text_value, value_in}
use Rattle.ti_caps.specs.Slots.{positions_of}
use Rattle.ti_source.specs.Code.EntryWalk.{AreKnown, Gathers, IsMarkOf, Keeps, Lists, ResolvedAt, TakeEffect, known, of_fields, steps_of}
use Rattle.ti_source.proofs.StandsForLaws.{merged-says, stands-for}
use Rattle.ti_source.proofs.MergedBackLaws.{value_of_capability-append, or-none}
use Rattle.ti_source.proofs.TaskLaws.{resolve-cons, resolved-at}

pub or-or : (a b c : Option FieldValue) → or_else (or_else a b) c ≡ or_else a (or_else b c)
or-or None b c = refl
or-or (Some s) b c = refl

pub first-last : (us : List Description) (d : Description) (kind : Kind) (slot : ℕ) → first_value (us ++ d ∷ []) kind slot ≡ or_else (first_value us kind slot) (value_in d kind slot)
first-last [] d kind slot = or-none (value_in d kind slot)
first-last (u ∷ us) d kind slot =
    ap (or_else (value_in u kind slot)) (first-last us d kind slot) ∙ sym (or-or (value_in u kind slot) (first_value us kind slot) (value_in d kind slot))

-- the fields so far: the entry's own, and those of the uses before the ones that are left
pub record IsGathering (entries : List Described) (marks : List Mark) (d : Described) (left : List (List ℕ)) (fields : List Statement) : Type 0 where
  pub known : AreKnown marks (map (index_of entries) left)
  pub used : List Description
  pub goes : (ds : List Description) → Resolve entries left ds → Resolve entries d.uses (used ++ ds)
  pub says : (kind : Kind) (slot : ℕ) → slot < positions_of kind → value_of_capability kind slot fields ≡ or_else (value_of_capability kind slot d.statements) (first_value used kind slot)

pub gathering-init : (entries : List Described) (marks : List Mark) (d : Described) (fields : List Statement) → AreKnown marks (map (index_of entries) d.uses) → fields ≡ d.statements → IsGathering entries marks d d.uses fields
gathering-init entries marks d fields known own = record {
  known = known;
  used = [];
  goes = λ ds r. r;
  says = λ kind slot small. ap (value_of_capability kind slot) own ∙ sym (or-none (value_of_capability kind slot d.statements));
}

pub gathering-known : (entries : List Described) (marks : List Mark) (d : Described) (left rest : List (List ℕ)) (name : List ℕ) (fields : List Statement) → IsGathering entries marks d left fields → left ≡ name ∷ rest → known marks (index_of entries name) ≡ true
gathering-known entries marks d left rest name fields g left-is =
    let P : List (List ℕ) → Type 0 = λ ns. IsGathering entries marks d ns fields in
    (subst P left-is g).known.0

pub gathering-go : (entries : List Described) (marks : List Mark) (d : Described) (left rest : List (List ℕ)) (name : List ℕ) (i : ℕ) (fields more after : List Statement) → IsGathering entries marks d left fields → left ≡ name ∷ rest → index_of entries name ≡ Some i → TakeEffect entries i more → after ≡ fields ++ more → IsGathering entries marks d rest after
gathering-go entries marks d left rest name i fields more after g left-is index kept after-is =
    let P : List (List ℕ) → Type 0 = λ ns. IsGathering entries marks d ns fields in
    let v = subst P left-is g in
    let one = merged kept.entry kept.used in
    let resolved = resolved-at entries i kept.entry kept.used kept.at kept.resolved in
    record {
      known = v.known.1;
      used = v.used ++ one ∷ [];
      goes = λ ds r. rw (append_assoc) (v.goes (one ∷ ds) (resolve-cons entries name rest one ds (resolved name index) r));
      says = λ kind slot small.
          ap (value_of_capability kind slot) after-is ∙ value_of_capability-append kind slot fields more
          ∙ ap (λ o. or_else o (value_of_capability kind slot more)) (v.says kind slot small)
          ∙ ap (or_else (or_else (value_of_capability kind slot d.statements) (first_value v.used kind slot))) (kept.stands.says kind slot small)
          ∙ or-or (value_of_capability kind slot d.statements) (first_value v.used kind slot) (value_in one kind slot)
          ∙ ap (or_else (value_of_capability kind slot d.statements)) (sym (first-last v.used one kind slot));
    }

pub gathering-end : (entries : List Described) (marks : List Mark) (d : Described) (left : List (List ℕ)) (fields : List Statement) → IsGathering entries marks d left fields → left ≡ [] → Gathers entries d fields
gathering-end entries marks d left fields g none =
    let P : List (List ℕ) → Type 0 = λ ns. IsGathering entries marks d ns fields in
    let v = subst P none g in
    let Q : List Description → Type 0 = λ ds. Resolve entries d.uses ds in
    record {
      used = v.used;
      resolved = subst Q (append-nil v.used) (v.goes [] nothing);
      says = λ kind slot small. ap (if_present kind) (v.says kind slot small);
    }

-- the fields that take effect of the entry at an index
pub take-effect : (entries : List Described) (i : ℕ) (d : Described) (all some : List Statement) → slice_get entries i ≡ Some d → Gathers entries d all → AreEffective all some → TakeEffect entries i some
take-effect entries i d all some at g counts = record {
  entry = d;
  at = at;
  used = g.used;
  resolved = g.resolved;
  stands = stands-for entries d all some g counts;
}

-- the entry of these fields
pub effective-entry : (entries : List Described) (i : ℕ) (d : Described) (names : List ℕ) (fields : List Statement) (e : Description) → slice_get entries i ≡ Some d → (t : TakeEffect entries i fields) → names ≡ d.names → e ≡ merged (of_fields names fields) [] → ResolvedAt entries (Some i) e
effective-entry entries i d names fields e at t named is =
    let own : d ≡ t.entry = cc (at, t.at) in
    subst (λ x. ResolvedAt entries (Some i) x) (sym (is ∙ ap (λ ns. merged (of_fields ns fields) []) (named ∙ ap (λ (x : Described). x.names) own) ∙ t.stands.whole)) (resolved-at entries i t.entry t.used t.at t.resolved)

-- what a resolved entry says is present
pub says-present : (d : Description) (kind : Kind) (slot : ℕ) → if_present kind (value_in d kind slot) ≡ value_in d kind slot
says-present d Flag slot = by (flag_at d slot)
  where
    by : (b : Bool) → if_present Flag (flag_value b) ≡ flag_value b
    by true = refl
    by false = refl
says-present d Number slot = by (number_at d slot)
  where
    by : (o : Option ℕ) → if_present Number (number_value o) ≡ number_value o
    by None = refl
    by (Some n) = refl
says-present d Text slot = by (text_at d slot)
  where
    by : (o : Option (List ℕ)) → if_present Text (text_value o) ≡ text_value o
    by None = refl
    by (Some t) = refl

-- fields that take effect are such by which an entry has what it has
pub effective-lists : (entries : List Described) (i : ℕ) (fields : List Statement) → TakeEffect entries i fields → Lists entries i fields
effective-lists entries i fields t = record {
  entry = t.entry;
  at = t.at;
  gathers = record {
    used = t.used;
    resolved = t.resolved;
    says = λ kind slot small.
        ap (if_present kind) (t.stands.says kind slot small) ∙ says-present (merged t.entry t.used) kind slot ∙ sym (merged-says t.entry t.used kind slot small);
  };
}

-- only what is present counts
pub present-or : (kind : Kind) (a b c : Option FieldValue) → if_present kind b ≡ if_present kind c → if_present kind (or_else a b) ≡ if_present kind (or_else a c)
present-or kind None b c e = e
present-or kind (Some s) b c e = refl

-- an entry's own fields and those of the only entry that it uses
pub gathers-one : (entries : List Described) (d : Described) (name : List ℕ) (i : ℕ) (more : List Statement) → d.uses ≡ name ∷ [] → index_of entries name ≡ Some i → Lists entries i more → Gathers entries d (d.statements ++ more)
gathers-one entries d name i more uses index l =
    let one = merged l.entry l.gathers.used in
    let resolved = resolved-at entries i l.entry l.gathers.used l.at l.gathers.resolved in
    record {
      used = one ∷ [];
      resolved = subst (λ us. Resolve entries us (one ∷ [])) (sym uses) (resolved name index);
      says = λ kind slot small.
          ap (if_present kind) (value_of_capability-append kind slot d.statements more)
          ∙ present-or kind (value_of_capability kind slot d.statements) (value_of_capability kind slot more) (first_value (one ∷ []) kind slot)
          (l.gathers.says kind slot small ∙ merged-says l.entry l.gathers.used kind slot small
          ∙ sym (says-present one kind slot) ∙ ap (if_present kind) (sym (or-none (value_in one kind slot))));
    }

-- a resolved entry
pub record IsResolved (entries : List Described) (i : ℕ) : Type 0 where
  pub entry : Described
  pub at : slice_get entries i ≡ Some entry
  pub used : List Description
  pub resolved : Resolve entries entry.uses used

pub mark-resolved : (entries : List Described) (marks : List Mark) (kept : List (List Statement)) (i : ℕ) (m : Mark) → is_some (steps_of (Some m)) ≡ true → IsMarkOf entries marks kept i m → IsResolved entries i
mark-resolved entries marks kept i New some h = cc
mark-resolved entries marks kept i Open some h = cc
mark-resolved entries marks kept i (Faulty f) some h = cc
mark-resolved entries marks kept i (Done n) some h = record { entry = h.entry; at = h.at; used = h.used; resolved = h.resolved }
mark-resolved entries marks kept i (Over next n) some h = record { entry = h.entry; at = h.at; used = h.used; resolved = h.resolved }
mark-resolved entries marks kept i (Kept k) some h = record { entry = h.2.entry; at = h.2.at; used = h.2.used; resolved = h.2.resolved }

pub known-resolved : (entries : List Described) (marks : List Mark) (kept : List (List Statement)) (i : ℕ) → Keeps entries marks kept → known marks (Some i) ≡ true → IsResolved entries i
known-resolved entries marks kept i keeps some = by (slice_get marks i) refl some
  where
    by : (o : Option Mark) → slice_get marks i ≡ o → is_some (steps_of o) ≡ true → IsResolved entries i
    by None e h = cc
    by (Some m) e h = mark-resolved entries marks kept i m h (keeps i m e)

-- names whose entries are known resolve
pub resolve-known : (entries : List Described) (marks : List Mark) (kept : List (List Statement)) (names : List (List ℕ)) → Keeps entries marks kept → AreKnown marks (map (index_of entries) names) → (used : List Description) × Resolve entries names used
resolve-known entries marks kept [] keeps h = ([], nothing)
resolve-known entries marks kept (name ∷ names) keeps h =
    let rest = resolve-known entries marks kept names keeps h.1 in
    by (index_of entries name) refl h.0 rest
  where
    by : (p : Option ℕ) → index_of entries name ≡ p → known marks p ≡ true → ((used : List Description) × Resolve entries names used) → (used : List Description) × Resolve entries (name ∷ names) used
    by None e k rest = cc
    by (Some i) e k rest =
        let r = known-resolved entries marks kept i keeps k in
        let one = merged r.entry r.used in
        (one ∷ rest.0, resolve-cons entries name names one rest.0 (resolved-at entries i r.entry r.used r.at r.resolved name e) rest.1)
