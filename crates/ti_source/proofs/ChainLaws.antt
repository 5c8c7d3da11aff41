-- Faults over chains of uses: over longer ones, over none, and those of all entries that are left later.
use Rattle.std.proofs.Common.{◌≡◌, ◌≢◌, ◌∙◌, ℕ, ◌+◌, ◌≤◌, ◌<◌, Bool, true, false, ◌||◌, eqb, List, [], ◌∷◌, ◌++◌, Option, Some, is_some, option_map, slice_get, map, set, get_or, length, reverse, refl, ap, sym, subst, append_assoc, append-nil, arith, ◌⊎◌, inl, inr}
use Rattle.std.specs.List.{list_any}
use Rattle.std.proofs.lemmas.Bool.{eqb-true}
use Rattle.std.proofs.lemmas.Bool.Decides.{nat_tests}
use Rattle.std.proofs.lemmas.List.{length-set}
use Rattle.std.proofs.lemmas.Option.{slice_get-get_or}
use Rattle.ti_caps.specs.Description.{Description}
use Rattle.ti_source.specs.declared.faults.SourceFault.{SourceFault}
use Rattle.ti_source.specs.declared.faults.SourceFault.TheVariants.{UseCycle}
use Rattle.ti_source.specs.declared.reading.statement.Statement.{Statement}
use Rattle.ti_source.specs.declared.resolving.marks.Mark.{Mark}
use Rattle.ti_source.specs.declared.resolving.marks.Mark.TheVariants.{New, Open, Faulty}
use Rattle.ti_source.specs.declared.resolving.walk.EntryTask.{EntryTask}
use Rattle.ti_source.specs.declared.resolving.walk.EntryTask.TheVariants.{Visit, Leave}
use Rattle.ti_source.specs.Described.{Described}
use Rattle.ti_source.specs.Resolving.Named.{found_from, index_of}
use Rattle.ti_source.specs.Resolving.Uses.{Resolve, nothing, more, Fault, unknown, cycle, below, later}
use Rattle.ti_source.specs.Code.EntryWalk.{visits, leaves, FaultAt, ResolvedAt, Awaits, Awaited, IsTakenBack, IsWalk, steps_of, with_fault}
use Rattle.ti_source.proofs.OnceLaws.{fault-is-once}
use Rattle.ti_source.proofs.IndexLaws.{get-cases, get-lt, get-other, get-within, reverse-push}
use Rattle.ti_source.proofs.LoweringLaws.{Lowers, lowers-same, mark-lower}
use Rattle.ti_source.proofs.TaskLaws.{fault-more, found-at, no-fault, index-there}

-- ---- chains

abbrev on_chain : List ℕ → ℕ → Type 0
on_chain chain i = list_any (λ j. eqb j i) chain ≡ true

abbrev AllOn : List ℕ → List ℕ → Type 0
AllOn few many = (i : ℕ) → on_chain few i → on_chain many i

or-more : (a b c : Bool) → (b ≡ true → c ≡ true) → (a || b) ≡ true → (a || c) ≡ true
or-more true b c h e = refl
or-more false b c h e = h e

all-more : (few many : List ℕ) (x : ℕ) → AllOn few many → AllOn (x ∷ few) (x ∷ many)
all-more few many x all i on =
    or-more (eqb x i) (list_any (λ j. eqb j i) few) (list_any (λ j. eqb j i) many) (all i) on

none-on : (many : List ℕ) → AllOn [] many
none-on many i on = cc

off-few : (few many : List ℕ) (i : ℕ) → AllOn few many → list_any (λ j. eqb j i) many ≡ false → list_any (λ j. eqb j i) few ≡ false
off-few few many i all off = by (list_any (λ j. eqb j i) few) refl
  where
    by : (t : Bool) → list_any (λ j. eqb j i) few ≡ t → t ≡ false
    by true on = let also = all i on in cc
    by false e = refl

-- over a longer chain the fault is the same, or the chain is closed before
pub longer : {entries : List Described} {few many : List ℕ} {names : List (List ℕ)} {fault : SourceFault} → AllOn few many → Fault entries few names fault → Fault entries many names fault ⊎ Fault entries many names UseCycle
longer all (unknown e) = inl (unknown e)
longer all (cycle {found = x} e on) = inl (cycle {found = x} e (all x.0 on))
longer {entries} {few} {many} all (below {name = n} {names = ns} {found = x} {fault = f} e off is) =
    by (list_any (λ j. eqb j x.0) many) refl (longer (all-more few many x.0 all) is)
  where
    by : (t : Bool) → list_any (λ j. eqb j x.0) many ≡ t → Fault entries (x.0 ∷ many) x.1.uses f ⊎ Fault entries (x.0 ∷ many) x.1.uses UseCycle → Fault entries many (n ∷ ns) f ⊎ Fault entries many (n ∷ ns) UseCycle
    by true on h = inr (cycle {found = x} e on)
    by false none (inl h) = inl (below {found = x} e none h)
    by false none (inr h) = inr (below {found = x} e none h)
longer all (later r is) = elim (longer all is) [ inl h ↦ inl (later r h) | inr h ↦ inr (later r h) ]

-- a cycle over a longer chain
closed : {entries : List Described} {many : List ℕ} {names : List (List ℕ)} → Fault entries [] names UseCycle → Fault entries many names UseCycle
closed {many = many} h = elim (longer (none-on many) h) [ inl x ↦ x | inr x ↦ x ]

-- over a shorter chain, where the entries that are left out have the same fault by themselves
pub shorter : {entries : List Described} {few many : List ℕ} {names : List (List ℕ)} {fault : SourceFault} → AllOn few many → ((i : ℕ) → on_chain many i → on_chain few i ⊎ FaultAt entries [] (Some i) fault) → Fault entries many names fault → Fault entries few names fault
shorter all covers (unknown e) = unknown e
shorter {entries} {few} all covers (cycle {name = n} {names = ns} {found = x} e on) =
    elim (covers x.0 on) [
      | inl there ↦ cycle {found = x} e there
      | inr h ↦
          let index : index_of entries n ≡ Some x.0 = ap (option_map (λ (p : ℕ × Described). p.0)) e in
          fault-more entries few n ns UseCycle (closed (h n index))
    ]
shorter {entries} {few} {many} all covers (below {found = x} {fault = f} e off is) =
    below {found = x} e (off-few few many x.0 all off) (shorter (all-more few many x.0 all) (λ i on. by i (eqb x.0 i) on (covers i)) is)
  where
    by : (i : ℕ) (t : Bool) → (t || list_any (λ j. eqb j i) many) ≡ true → (on_chain many i → on_chain few i ⊎ FaultAt entries [] (Some i) f) → ((t || list_any (λ j. eqb j i) few) ≡ true) ⊎ FaultAt entries [] (Some i) f
    by i true on h = inl refl
    by i false on h = h on
shorter all covers (later r is) = later r (shorter all covers is)

-- where all of a chain have the fault by themselves, so has what is reached over it
alone : {entries : List Described} {chain : List ℕ} {names : List (List ℕ)} {fault : SourceFault} → ((i : ℕ) → on_chain chain i → FaultAt entries [] (Some i) fault) → Fault entries chain names fault → Fault entries [] names fault
alone {chain = chain} all h = shorter (none-on chain) (λ i on. inr (all i on)) h

-- ---- what is awaited

pub resolve-append : {entries : List Described} {names more_names : List (List ℕ)} {ds es : List Description} → Resolve entries names ds → Resolve entries more_names es → Resolve entries (names ++ more_names) (ds ++ es)
resolve-append nothing r = r
resolve-append (more {found = found} f u is r) s = more {found = found} f u is (resolve-append r s)

later-all : {entries : List Described} {chain : List ℕ} {names more_names : List (List ℕ)} {ds : List Description} {fault : SourceFault} → Resolve entries names ds → Fault entries chain more_names fault → Fault entries chain (names ++ more_names) fault
later-all nothing h = h
later-all (more {found = found} f u is r) h = later (more {found = found} f u is nothing) (later-all r h)

-- the first use that is awaited
record Next (entries : List Described) (p : Option ℕ) (first : List (Option ℕ)) (names : List (List ℕ)) : Type 0 where
  name : List ℕ
  rest : List (List ℕ)
  all : names ≡ name ∷ rest
  index : index_of entries name ≡ p
  others : map (index_of entries) rest ≡ first

next-of : (entries : List Described) (p : Option ℕ) (first : List (Option ℕ)) (names : List (List ℕ)) → map (index_of entries) names ≡ p ∷ first → Next entries p first names
next-of entries p first [] e = cc
next-of entries p first (u ∷ us) e =
    let here : index_of entries u ≡ p = cc in
    let further : map (index_of entries) us ≡ first = cc in
    record { name = u; rest = us; all = refl; index = here; others = further }

-- what was visited first resolves
pub awaited-done : (entries : List Described) (tasks : List EntryTask) (first : List (Option ℕ)) (p : Option ℕ) (d : Description) → ResolvedAt entries p d → Awaited entries (p ∷ first) tasks → Awaited entries first tasks
awaited-done entries [] first p d r h = tt
awaited-done entries (Visit q ∷ tasks) first p d r h = awaited-done entries tasks (first ++ q ∷ []) p d r h
awaited-done entries (Leave i ∷ tasks) first p d r h =
    let a = h.0 in
    let next = next-of entries p first a.further a.awaited in (
      record {
        entry = a.entry;
        at = a.at;
        before = a.before ++ next.name ∷ [];
        further = next.rest;
        uses = a.uses ∙ ap (λ us. a.before ++ us) next.all ∙ sym (append_assoc a.before (next.name ∷ []) next.rest);
        used = a.used ++ d ∷ [];
        resolved = resolve-append a.resolved (r next.name next.index);
        awaited = next.others;
        once = a.once;
      },
      h.1,
    )

awaited-visits : (entries : List Described) (us : List (List ℕ)) (first : List (Option ℕ)) (rest : List EntryTask) → Awaited entries (first ++ map (index_of entries) us) rest → Awaited entries first (visits entries us ++ rest)
awaited-visits entries [] first rest h = subst (λ ps. Awaited entries ps rest) (append-nil first) h
awaited-visits entries (u ∷ us) first rest h =
    awaited-visits entries us (first ++ index_of entries u ∷ []) rest (subst (λ ps. Awaited entries ps rest) (sym (append_assoc first (index_of entries u ∷ []) (map (index_of entries) us))) h)

-- an entry is entered, which awaits all its uses
pub awaited-entered : (entries : List Described) (i : ℕ) (d : Described) (tasks : List EntryTask) → slice_get entries i ≡ Some d → list_any (λ j. eqb j i) (leaves tasks) ≡ false → Awaited entries (Some i ∷ []) tasks → Awaited entries [] (visits entries d.uses ++ Leave i ∷ tasks)
awaited-entered entries i d tasks at off h =
    awaited-visits entries d.uses [] (Leave i ∷ tasks) (
      record { entry = d; at = at; before = []; further = d.uses; uses = refl; used = []; resolved = nothing; awaited = refl; once = off },
      h,
    )

-- ---- the fault of all that are left later

fault-above : (entries : List Described) (first : List (Option ℕ)) (p : Option ℕ) (i : ℕ) (tasks : List EntryTask) (fault : SourceFault) → Awaits entries (p ∷ first) i tasks → FaultAt entries (i ∷ leaves tasks) p fault → FaultAt entries (leaves tasks) (Some i) fault
fault-above entries first p i tasks fault a h name index =
    let next = next-of entries p first a.further a.awaited in
    let here = fault-more entries (i ∷ leaves tasks) next.name next.rest fault (h next.name next.index) in
    let all = later-all a.resolved here in
    let uses : a.before ++ next.name ∷ next.rest ≡ a.entry.uses = ap (λ us. a.before ++ us) (sym next.all) ∙ sym a.uses in
    below {found = (i, a.entry)} (found-at entries name i a.entry index a.at) a.once (subst (λ us. Fault entries (i ∷ leaves tasks) us fault) uses all)

-- the fault of a visit is that of each entry on its chain, by itself, and its own by itself
pub fault-through : (entries : List Described) (tasks : List EntryTask) (first : List (Option ℕ)) (p : Option ℕ) (fault : SourceFault) → Awaited entries (p ∷ first) tasks → FaultAt entries (leaves tasks) p fault → ((i : ℕ) → on_chain (leaves tasks) i → FaultAt entries [] (Some i) fault) × FaultAt entries [] p fault
fault-through entries [] first p fault w h = ((λ i on. cc), h)
fault-through entries (Visit q ∷ tasks) first p fault w h =
    fault-through entries tasks (first ++ q ∷ []) p fault w h
fault-through entries (Leave i ∷ tasks) first p fault w h =
    through (fault-through entries tasks [] (Some i) fault w.1 (fault-above entries first p i tasks fault w.0 h))
  where
    by : ((j : ℕ) → on_chain (leaves tasks) j → FaultAt entries [] (Some j) fault) → FaultAt entries [] (Some i) fault → (j : ℕ) (t : Bool) → eqb i j ≡ t → (t || list_any (λ k. eqb k j) (leaves tasks)) ≡ true → FaultAt entries [] (Some j) fault
    by all own j true e on = let same : i ≡ j = eqb-true i j e in subst (λ k. FaultAt entries [] (Some k) fault) same own
    by all own j false e on = all j on

    through : ((j : ℕ) → on_chain (leaves tasks) j → FaultAt entries [] (Some j) fault) × FaultAt entries [] (Some i) fault → ((j : ℕ) → on_chain (i ∷ leaves tasks) j → FaultAt entries [] (Some j) fault) × FaultAt entries [] p fault
    through rest =
        let all : (j : ℕ) → on_chain (i ∷ leaves tasks) j → FaultAt entries [] (Some j) fault = λ j on. by rest.0 rest.1 j (eqb i j) refl on in
        (all, λ name index. alone all (h name index))

-- names of one entry have one fault
same-fault : (entries : List Described) (chain : List ℕ) (name other : List ℕ) (fault : SourceFault) → found_from 0 name entries ≡ found_from 0 other entries → Fault entries chain (name ∷ []) fault → Fault entries chain (other ∷ []) fault
same-fault entries chain name other fault same one = by one refl
  where
    by : {ns : List (List ℕ)} {ch : List ℕ} {g : SourceFault} → Fault entries ch ns g → ns ≡ name ∷ [] → Fault entries ch (other ∷ []) g
    by (unknown {name = n} e) p = let named : n ≡ name = cc in unknown (sym same ∙ ap (λ x. found_from 0 x entries) (sym named) ∙ e)
    by (cycle {name = n} {found = x} e c) p = let named : n ≡ name = cc in cycle {found = x} (sym same ∙ ap (λ x. found_from 0 x entries) (sym named) ∙ e) c
    by (below {name = n} {found = x} e c f) p = let named : n ≡ name = cc in below {found = x} (sym same ∙ ap (λ x. found_from 0 x entries) (sym named) ∙ e) c f
    by (later {names = ms} {fault = g} r f) p = let none : ms ≡ [] = cc in absurd (no-fault entries _ ms g f none)

-- what an entry has by itself it has over the chain from which it is visited
pub faulty-at : (entries : List Described) (tasks : List EntryTask) (i : ℕ) (fault : SourceFault) → Awaited entries (Some i ∷ []) tasks → FaultAt entries [] (Some i) fault → FaultAt entries (leaves tasks) (Some i) fault
faulty-at entries tasks i fault w h name index =
    elim (longer (none-on (leaves tasks)) (h name index)) [
      | inl f ↦ f
      | inr f ↦
          let lt = index-there entries name i index in
          let d = get-within entries i lt in
          let found : (other : List ℕ) → index_of entries other ≡ Some i → found_from 0 other entries ≡ Some (i, d.0) = λ other at. found-at entries other i d.0 at d.1 in
          let all : FaultAt entries (leaves tasks) (Some i) UseCycle = λ other at. same-fault entries (leaves tasks) name other UseCycle (found name index ∙ sym (found other at)) f in
          let own = fault-through entries tasks [] (Some i) UseCycle w all in
          let is : UseCycle ≡ fault = fault-is-once entries (name ∷ []) UseCycle fault (own.1 name index) (h name index) in
          subst (λ g. Fault entries (leaves tasks) (name ∷ []) g) is f
    ]

-- ---- marks with a fault

with-length : (fault : SourceFault) (is : List ℕ) (ms : List Mark) → length (with_fault fault is ms) ≡ length ms
with-length fault [] ms = refl
with-length fault (i ∷ is) ms = with-length fault is (set ms i (Faulty fault)) ∙ length-set ms i (Faulty fault)

with-cases : (fault : SourceFault) (is : List ℕ) (ms : List Mark) (i : ℕ) (m : Mark) → slice_get (with_fault fault is ms) i ≡ Some m → ((m ≡ Faulty fault) × on_chain is i) ⊎ ((slice_get ms i ≡ Some m) × (list_any (λ j. eqb j i) is ≡ false))
with-cases fault [] ms i m e = inr (e, refl)
with-cases fault (k ∷ is) ms i m e =
    elim (with-cases fault is (set ms k (Faulty fault)) i m e) [
      | inl h ↦ inl (h.0, either (eqb k i) (list_any (λ j. eqb j i) is) h.1)
      | inr h ↦ elim (get-cases ms k (Faulty fault) i m h.0) [
        | inl g ↦ inl (g.1, first g.0)
        | inr g ↦ inr (g.1, neither (eqb k i) (list_any (λ j. eqb j i) is) (differs k i g.0) h.1)
      ]
    ]
  where
    either : (a b : Bool) → b ≡ true → (a || b) ≡ true
    either true b e = refl
    either false b e = e

    neither : (a b : Bool) → a ≡ false → b ≡ false → (a || b) ≡ false
    neither true b p e = cc
    neither false b p e = e

    differs : (a b : ℕ) → b ≢ a → eqb a b ≡ false
    differs a b ne = grind (arith, nat_tests)

    first : i ≡ k → (eqb k i || list_any (λ j. eqb j i) is) ≡ true
    first same = let is_on : eqb k i ≡ true = grind (arith, nat_tests) in rw is_on refl

-- the marks of the others stay
with-off : (fault : SourceFault) (is : List ℕ) (ms : List Mark) (i : ℕ) → list_any (λ j. eqb j i) is ≡ false → slice_get (with_fault fault is ms) i ≡ slice_get ms i
with-off fault [] ms i off = refl
with-off fault (k ∷ is) ms i off =
    with-off fault is (set ms k (Faulty fault)) i (second (eqb k i) (list_any (λ j. eqb j i) is) off)
    ∙ get-other ms k i (Faulty fault) (differs k i (first (eqb k i) (list_any (λ j. eqb j i) is) off))
  where
    first : (a b : Bool) → (a || b) ≡ false → a ≡ false
    first true b e = e
    first false b e = refl

    second : (a b : Bool) → (a || b) ≡ false → b ≡ false
    second true b e = cc
    second false b e = e

    differs : (a b : ℕ) → eqb a b ≡ false → b ≢ a
    differs a b e same = grind (arith, nat_tests)

-- an open mark is not known
pub open-unknown : (m : Mark) → m ≡ Open → is_some (steps_of (Some m)) ≡ true → ⊥
open-unknown m is h = let bad : is_some (steps_of (Some Open)) ≡ true = ap (λ x. is_some (steps_of (Some x))) (sym is) ∙ h in cc

-- a walk that met a fault, once the entries on the chain are marked with it
pub ready-again : (entries : List Described) (marks after : List Mark) (kept : List (List Statement)) (p : Option ℕ) (tasks : List EntryTask) (fault : SourceFault) → IsWalk entries marks kept (Visit p ∷ tasks) → FaultAt entries (leaves tasks) p fault → after ≡ with_fault fault (leaves tasks) marks → IsWalk entries after kept []
ready-again entries marks after kept p tasks fault w h is =
    let through = fault-through entries tasks [] p fault w.awaited h in
    rw is (record {
      sized = with-length fault (leaves tasks) marks ∙ w.sized;
      opened = λ i e. elim (with-cases fault (leaves tasks) marks i Open e) [
        | inl g ↦ absurd (cc (g.0))
        | inr g ↦ let on = w.opened i g.0 in absurd (cc (on, g.1))
      ];
      fresh = λ i e. refl;
      chain = λ i on. cc;
      keeps = λ i m e. elim (with-cases fault (leaves tasks) marks i m e) [
        | inl g ↦ rw (g.0) tt
        | inr g ↦ mark-lower entries marks (with_fault fault (leaves tasks) marks) kept kept i m (lowers-same marks (with_fault fault (leaves tasks) marks) stays) (λ k fields there. there) (w.keeps i m g.0)
      ];
      held = tt;
      awaited = tt;
      faulty = λ i other e. elim (with-cases fault (leaves tasks) marks i (Faulty other) e) [
        | inl g ↦ let same : other ≡ fault = cc (g.0) in rw same (through.0 i g.1)
        | inr g ↦ w.faulty i other g.0
      ];
    })
  where
    stays : (i : ℕ) (m : Mark) → slice_get marks i ≡ Some m → is_some (steps_of (Some m)) ≡ true → slice_get (with_fault fault (leaves tasks) marks) i ≡ Some m
    stays i m at some = by (list_any (λ j. eqb j i) (leaves tasks)) refl
      where
        by : (t : Bool) → list_any (λ j. eqb j i) (leaves tasks) ≡ t → slice_get (with_fault fault (leaves tasks) marks) i ≡ Some m
        by true on =
            let is : m ≡ Open = cc (at, w.chain i on) in
            absurd (open-unknown m is some)
        by false off = with-off fault (leaves tasks) marks i off ∙ at

pub faults-leave : (fault : SourceFault) (marks after whole : List Mark) (all rest : List EntryTask) (i : ℕ) → all ≡ rest ++ Leave i ∷ [] → after ≡ set marks i (Faulty fault) → with_fault fault (leaves (reverse all)) marks ≡ whole → with_fault fault (leaves (reverse rest)) after ≡ whole
faults-leave fault marks after whole all rest i popped put h =
    ap (with_fault fault (leaves (reverse rest))) put ∙ sym (ap (λ ts. with_fault fault (leaves ts) marks) (ap reverse popped ∙ reverse-push rest (Leave i))) ∙ h

pub faults-visit : (fault : SourceFault) (marks whole : List Mark) (all rest : List EntryTask) (p : Option ℕ) → all ≡ rest ++ Visit p ∷ [] → with_fault fault (leaves (reverse all)) marks ≡ whole → with_fault fault (leaves (reverse rest)) marks ≡ whole
faults-visit fault marks whole all rest p popped h =
    sym (ap (λ ts. with_fault fault (leaves ts) marks) (ap reverse popped ∙ reverse-push rest (Visit p))) ∙ h

-- ---- marks that are taken back

-- the first of the marks are taken back
abbrev pub AreTakenBack : ℕ → List Mark → List Mark → Type 0
AreTakenBack i before now =
    (length now ≡ length before) × ((j : ℕ) (m : Mark) → slice_get now j ≡ Some m → (m ≡ New) ⊎ ((slice_get before j ≡ Some m) × ((m ≢ Open) ⊎ (i ≤ j))))
    × ((j : ℕ) (m : Mark) → slice_get before j ≡ Some m → m ≢ Open → slice_get now j ≡ Some m)

pub back-init : (marks : List Mark) → AreTakenBack 0 marks marks
back-init marks = (refl, (λ j m e. inr (e, inr (omega arith))), λ j m e ne. e)

past : (i j : ℕ) → j ≢ i → i ≤ j → i + 1 ≤ j
past i j ne le = grind (arith, nat_tests)

pub back-open : (before now after : List Mark) (i : ℕ) → AreTakenBack i before now → slice_get now i ≡ Some Open → after ≡ set now i New → AreTakenBack (i + 1) before after
back-open before now after i h at is =
    rw is (
      length-set now i New ∙ h.0,
      (λ j m e. elim (get-cases now i New j m e) [
        | inl g ↦ inl g.1
        | inr g ↦ elim (h.1 j m g.1) [
          | inl x ↦ inl x
          | inr y ↦ inr (y.0, elim y.1 [ inl z ↦ inl z | inr le ↦ inr (past i j g.0 le) ])
        ]
      ]),
      λ j m e ne. by j m (h.2 j m e ne) ne (eqb j i) refl,
    )
  where
    by : (j : ℕ) (m : Mark) → slice_get now j ≡ Some m → m ≢ Open → (t : Bool) → eqb j i ≡ t → slice_get (set now i New) j ≡ Some m
    by j m there ne true same =
        let here : slice_get now i ≡ Some m = ap (slice_get now) (sym (eqb-true j i same)) ∙ there in
        let open_is : m ≡ Open = cc (here, at) in
        absurd (ne open_is)
    by j m there ne false other = get-other now i j New (grind (arith, nat_tests)) ∙ there

pub back-other : (before now : List Mark) (i : ℕ) (x : Mark) → AreTakenBack i before now → slice_get now i ≡ Some x → x ≢ Open → AreTakenBack (i + 1) before now
back-other before now i x h at ne = (
  h.0,
  (λ j m e. elim (h.1 j m e) [
    | inl y ↦ inl y
    | inr y ↦ inr (y.0, elim y.1 [ inl z ↦ inl z | inr le ↦ by j m e (eqb j i) refl le ])
  ]),
  h.2,
)
  where
    by : (j : ℕ) (m : Mark) → slice_get now j ≡ Some m → (t : Bool) → eqb j i ≡ t → i ≤ j → (m ≢ Open) ⊎ (i + 1 ≤ j)
    by j m e true is le =
        let same : j ≡ i = eqb-true j i is in
        let there : slice_get now i ≡ Some m = ap (slice_get now) (sym same) ∙ e in
        let mark : x ≡ m = cc (at, there) in
        inl (λ open_is. ne (mark ∙ open_is))
    by j m e false is le = inr (grind (arith, nat_tests))

-- the same of marks that are read by index
pub back-read : (before now after : List Mark) (i : ℕ) → AreTakenBack i before now → i < length now → get_or now i New ≡ Open → after ≡ set now i New → AreTakenBack (i + 1) before after
back-read before now after i h lt at is = back-open before now after i h (slice_get-get_or now i New lt ∙ ap Some at) is

pub back-pass : (before now after : List Mark) (i : ℕ) → AreTakenBack i before now → i < length now → get_or now i New ≢ Open → after ≡ now → AreTakenBack (i + 1) before after
back-pass before now after i h lt ne is = rw is (back-other before now i (get_or now i New) h (slice_get-get_or now i New lt) ne)

pub back-end : (before now : List Mark) (i : ℕ) → AreTakenBack i before now → length before ≤ i → IsTakenBack before now
back-end before now i h all = record {
  sized = h.0;
  others = h.2;
  stay = λ j m e. elim (h.1 j m e) [
    | inl y ↦ inl y
    | inr y ↦ inr (y.0, elim y.1 [ inl z ↦ z | inr le ↦ let lt = get-lt before j m y.0 in absurd (omega arith) ])
  ];
}

-- a walk that ran out of memory
pub ready-back : (entries : List Described) (marks after : List Mark) (kept : List (List Statement)) (tasks : List EntryTask) → IsWalk entries marks kept tasks → IsTakenBack marks after → IsWalk entries after kept []
ready-back entries marks after kept tasks w t = record {
  sized = t.sized ∙ w.sized;
  opened = λ i e. elim (t.stay i Open e) [ inl h ↦ absurd (cc (h)) | inr h ↦ absurd (h.1 refl) ];
  fresh = λ i e. refl;
  chain = λ i on. cc;
  keeps = λ i m e. elim (t.stay i m e) [ inl h ↦ rw h tt | inr h ↦ mark-lower entries marks after kept kept i m lowers (λ k fields there. there) (w.keeps i m h.0) ];
  held = tt;
  awaited = tt;
  faulty = λ i fault e. elim (t.stay i (Faulty fault) e) [ inl h ↦ absurd (cc (h)) | inr h ↦ w.faulty i fault h.0 ];
}
  where
    lowers : Lowers marks after
    lowers = lowers-same marks after (λ i m at some. t.others i m at (λ is. open-unknown m is some))
