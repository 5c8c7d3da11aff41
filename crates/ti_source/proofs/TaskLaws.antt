-- Marks, tasks, and the faults of tasks.
use Rattle.std.proofs.Common.{◌≡◌, ◌∙◌, ℕ, zero, suc, ◌+◌, ◌-◌, ◌≤◌, ◌<◌, true, false, eqb, List, [], ◌∷◌, ◌++◌, Option, Some, None, option_map, is_some, IsSome, rules, slice_get, map, set, get_or, drop, length, refl, ap, sym, subst, arith, ◌⊎◌, inl, inr}
use Rattle.std.specs.List.{list_any}
use Rattle.std.proofs.lemmas.List.{drop_more}
use Rattle.ti_caps.specs.Description.{Description}
use Rattle.ti_source.specs.declared.faults.SourceFault.{SourceFault}
use Rattle.ti_source.specs.declared.resolving.marks.Mark.{Mark}
use Rattle.ti_source.specs.declared.resolving.marks.Mark.TheVariants.{New, Open, Done, Over, Kept, Faulty}
use Rattle.ti_source.specs.declared.resolving.walk.EntryTask.{EntryTask}
use Rattle.ti_source.specs.declared.resolving.walk.EntryTask.TheVariants.{Visit, Leave}
use Rattle.ti_source.specs.Described.{Described}
use Rattle.ti_source.specs.Resolving.Named.{found_from, index_of}
use Rattle.ti_source.specs.Resolving.Uses.{merged, Resolve, nothing, more, Fault, unknown, cycle, below, later, Resolved}
use Rattle.ti_source.specs.Code.EntryWalk.{visits, leaves, indices, ResolvedAt, FaultIn, steps_of, steps_at, known, AreKnown, IsAmong, Within, AllWithin, Held, count_new, one_if_new}
use Rattle.ti_source.proofs.NamedLaws.{found-there, found-some}
use Rattle.ti_source.proofs.IndexLaws.{get-lt}

-- ---- marks

steps-set : (ms : List Mark) (i j : ℕ) (m : Mark) → (is_some (steps_of (slice_get ms i)) ≡ true → is_some (steps_of (Some m)) ≡ true) → is_some (steps_of (slice_get ms j)) ≡ true → is_some (steps_of (slice_get (set ms i m) j)) ≡ true
steps-set [] i j m h e = e
steps-set (x ∷ xs) zero zero m h e = h e
steps-set (x ∷ xs) zero (suc j) m h e = e
steps-set (x ∷ xs) (suc i) zero m h e = e
steps-set (x ∷ xs) (suc i) (suc j) m h e = steps-set xs i j m h e

pub known-set : (ms : List Mark) (i : ℕ) (m : Mark) (p : Option ℕ) → (is_some (steps_of (slice_get ms i)) ≡ true → is_some (steps_of (Some m)) ≡ true) → known ms p ≡ true → known (set ms i m) p ≡ true
known-set ms i m None h e = e
known-set ms i m (Some j) h e = steps-set ms i j m h e

pub not-new : (o : Option Mark) → o ≡ Some New → is_some (steps_of o) ≡ true → ⊥
not-new None e h = cc
not-new (Some New) e h = cc
not-new (Some Open) e h = cc
not-new (Some (Done n)) e h = cc
not-new (Some (Over k n)) e h = cc
not-new (Some (Kept k)) e h = cc
not-new (Some (Faulty f)) e h = cc

pub count-open : (ms : List Mark) (i : ℕ) → slice_get ms i ≡ Some New → suc (count_new (set ms i Open)) ≡ count_new ms
count-open [] i e = cc
count-open (m ∷ ms) zero e = let is : m ≡ New = cc in rw is (omega arith)
count-open (m ∷ ms) (suc i) e = let h = count-open ms i e in omega arith

pub count-known : (ms : List Mark) (i : ℕ) (m : Mark) → one_if_new m ≡ 0 → count_new (set ms i m) ≤ count_new ms
count-known [] i m none = omega arith
count-known (x ∷ ms) zero m none = omega arith
count-known (x ∷ ms) (suc i) m none = let h = count-known ms i m none in omega arith

pub known-some : (marks : List Mark) (p : Option ℕ) → known marks p ≡ true → IsSome (steps_at marks p)
known-some marks p h = by (steps_at marks p) h
  where
    by : (o : Option ℕ) → is_some o ≡ true → IsSome o
    by None e = cc
    by (Some k) e = search rules

-- ---- tasks

pub visits-drop : (entries : List Described) (us : List (List ℕ)) (k : ℕ) (u : List ℕ) → k < length us → u ≡ get_or us k u → visits entries (drop k us) ≡ Visit (index_of entries u) ∷ visits entries (drop (k + 1) us)
visits-drop entries us k u lt is =
    ap (visits entries) (drop_more us k u lt ∙ ap (λ x. x ∷ drop (k + 1) us) (sym is))

pub leaves-visits : (entries : List Described) (us : List (List ℕ)) (rest : List EntryTask) → leaves (visits entries us ++ rest) ≡ leaves rest
leaves-visits entries [] rest = refl
leaves-visits entries (u ∷ us) rest = leaves-visits entries us rest

within-cons : (marks after : List Mark) (first firsts : List (Option ℕ)) (q : Option ℕ) → ((p : Option ℕ) → Within marks first p → Within after firsts p) → (p : Option ℕ) → Within marks (q ∷ first) p → Within after (q ∷ firsts) p
within-cons marks after first firsts q sub p (inl k) = elim (sub p (inl k)) [ inl x ↦ inl x | inr x ↦ inr (inr x) ]
within-cons marks after first firsts q sub p (inr (inl e)) = inr (inl e)
within-cons marks after first firsts q sub p (inr (inr a)) = elim (sub p (inr a)) [ inl x ↦ inl x | inr x ↦ inr (inr x) ]

pub within-further : (marks : List Mark) (first : List (Option ℕ)) (q p : Option ℕ) → Within marks first p → Within marks (q ∷ first) p
within-further marks first q p (inl k) = inl k
within-further marks first q p (inr a) = inr (inr a)

all-mono : (marks after : List Mark) (first firsts : List (Option ℕ)) → ((p : Option ℕ) → Within marks first p → Within after firsts p) → (ps : List (Option ℕ)) → AllWithin marks first ps → AllWithin after firsts ps
all-mono marks after first firsts sub [] h = tt
all-mono marks after first firsts sub (p ∷ ps) h = (sub p h.0, all-mono marks after first firsts sub ps h.1)

pub all-from : (marks : List Mark) (first : List (Option ℕ)) (ps : List (Option ℕ)) → ((p : Option ℕ) → IsAmong p ps → Within marks first p) → AllWithin marks first ps
all-from marks first [] h = tt
all-from marks first (p ∷ ps) h = (h p (inl refl), all-from marks first ps (λ q a. h q (inr a)))

pub all-known : (marks : List Mark) (ps : List (Option ℕ)) → AllWithin marks [] ps → AreKnown marks ps
all-known marks [] h = tt
all-known marks (p ∷ ps) h = (elim h.0 [ inl k ↦ k | inr a ↦ absurd a ], all-known marks ps h.1)

pub held-mono : (entries : List Described) (marks after : List Mark) (first firsts : List (Option ℕ)) (tasks : List EntryTask) → ((p : Option ℕ) → Within marks first p → Within after firsts p) → Held entries marks first tasks → Held entries after firsts tasks
held-mono entries marks after first firsts [] sub h = tt
held-mono entries marks after first firsts (Visit q ∷ tasks) sub h =
    held-mono entries marks after (q ∷ first) (q ∷ firsts) tasks (within-cons marks after first firsts q sub) h
held-mono entries marks after first firsts (Leave i ∷ tasks) sub h =
    ((h.0.0, h.0.1, all-mono marks after first firsts sub (map (index_of entries) h.0.0.uses) h.0.2), held-mono entries marks after (Some i ∷ first) (Some i ∷ firsts) tasks (within-cons marks after first firsts (Some i) sub) h.1)

pub held-visits : (entries : List Described) (marks : List Mark) (us : List (List ℕ)) (first : List (Option ℕ)) (rest : List EntryTask) → ((firsts : List (Option ℕ)) → ((p : Option ℕ) → (IsAmong p (map (index_of entries) us) ⊎ Within marks first p) → Within marks firsts p) → Held entries marks firsts rest) → Held entries marks first (visits entries us ++ rest)
held-visits entries marks [] first rest k = k first (λ p w. elim w [ inl a ↦ absurd a | inr x ↦ x ])
held-visits entries marks (u ∷ us) first rest k =
    held-visits entries marks us (index_of entries u ∷ first) rest (λ firsts sub. k firsts (λ p w. elim w [
      | inl a ↦ elim a [ inl e ↦ sub p (inr (inr (inl e))) | inr b ↦ sub p (inl b) ]
      | inr x ↦ sub p (inr (within-further marks first (index_of entries u) p x))
    ]))

pub indices-visits : (marks : List Mark) (entries : List Described) (us : List (List ℕ)) (rest : List EntryTask) (p : Option ℕ) → Within marks (indices rest) p → Within marks (indices (visits entries us ++ rest)) p
indices-visits marks entries [] rest p h = h
indices-visits marks entries (u ∷ us) rest p h =
    within-further marks (indices (visits entries us ++ rest)) (index_of entries u) p (indices-visits marks entries us rest p h)

-- ---- names, places and what they resolve to

pub found-at : (entries : List Described) (name : List ℕ) (i : ℕ) (d : Described) → index_of entries name ≡ Some i → slice_get entries i ≡ Some d → found_from 0 name entries ≡ Some (i, d)
found-at entries name i d index at = found-some name entries i d (sym index) at

pub index-there : (entries : List Described) (name : List ℕ) (i : ℕ) → index_of entries name ≡ Some i → i < length entries
index-there entries name i index = by (found_from 0 name entries) refl index
  where
    by : (o : Option (ℕ × Described)) → found_from 0 name entries ≡ o → option_map (λ (p : ℕ × Described). p.0) o ≡ Some i → i < length entries
    by None e h = cc
    by (Some f) e h =
        let there = found-there 0 name entries f.0 f.1 e in
        let same : f.0 ≡ i = cc in
        let z : f.0 - 0 ≡ i = omega arith in
        get-lt entries i f.1 (ap (slice_get entries) (sym z) ∙ there.1)

pub resolved-at : (entries : List Described) (i : ℕ) (d : Described) (used : List Description) → slice_get entries i ≡ Some d → Resolve entries d.uses used → ResolvedAt entries (Some i) (merged d used)
resolved-at entries i d used at uses name index = more (found-at entries name i d index at) uses refl nothing

pub resolve-cons : (entries : List Described) (name : List ℕ) (names : List (List ℕ)) (d : Description) (ds : List Description) → Resolved entries name d → Resolve entries names ds → Resolve entries (name ∷ names) (d ∷ ds)
resolve-cons entries name names d ds one rest = by one refl refl
  where
    by : {ns : List (List ℕ)} {es : List Description} → Resolve entries ns es → ns ≡ name ∷ [] → es ≡ d ∷ [] → Resolve entries (name ∷ names) (d ∷ ds)
    by nothing p q = cc
    by (more {name = n} {names = ms} {found = found} {used = used} {ds = es} {d = e} f u is r) p q =
        let named : n ≡ name = cc in
        let same : e ≡ d = cc in
        more {found = found} {used = used} (rw (← named) f) u (sym same ∙ is) rest

-- ---- faults

pub no-fault : (entries : List Described) (chain : List ℕ) (names : List (List ℕ)) (fault : SourceFault) → Fault entries chain names fault → names ≡ [] → ⊥
no-fault entries chain names fault (unknown e) p = cc
no-fault entries chain names fault (cycle e c) p = cc
no-fault entries chain names fault (below e c f) p = cc
no-fault entries chain names fault (later r f) p = cc

pub fault-more : (entries : List Described) (chain : List ℕ) (name : List ℕ) (names : List (List ℕ)) (fault : SourceFault) → Fault entries chain (name ∷ []) fault → Fault entries chain (name ∷ names) fault
fault-more entries chain name names fault one = by one refl
  where
    by : {ns : List (List ℕ)} {ch : List ℕ} {g : SourceFault} → Fault entries ch ns g → ns ≡ name ∷ [] → Fault entries ch (name ∷ names) g
    by (unknown {name = n} e) p = let named : n ≡ name = cc in unknown (rw (← named) e)
    by (cycle {name = n} {found = x} e c) p = let named : n ≡ name = cc in cycle {found = x} (rw (← named) e) c
    by (below {name = n} {found = x} e c f) p = let named : n ≡ name = cc in below {found = x} (rw (← named) e) c f
    by (later {names = ms} {fault = g} r f) p = let none : ms ≡ [] = cc in absurd (no-fault entries _ ms g f none)

faults-of-visits : (entries : List Described) (i : ℕ) (tasks : List EntryTask) (us : List (List ℕ)) (fault : SourceFault) → FaultIn entries (visits entries us ++ Leave i ∷ tasks) fault → Fault entries (i ∷ leaves tasks) us fault ⊎ (((ds : List Description) × Resolve entries us ds) × FaultIn entries tasks fault)
faults-of-visits entries i tasks [] fault h = inr (([], nothing), h)
faults-of-visits entries i tasks (u ∷ us) fault (inl h) =
    let P : List ℕ → Type 0 = λ chain. Fault entries chain (u ∷ []) fault in
    let here = subst P (leaves-visits entries us (Leave i ∷ tasks)) (h u refl) in
    inl (fault-more entries (i ∷ leaves tasks) u us fault here)
faults-of-visits entries i tasks (u ∷ us) fault (inr h) =
    elim (faults-of-visits entries i tasks us fault h.1) [
      | inl f ↦ inl (later (h.0.1 u refl) f)
      | inr r ↦ inr ((h.0.0 ∷ r.0.0, resolve-cons entries u us h.0.0 r.0.0 (h.0.1 u refl) r.0.1), r.1)
    ]

pub enter-lifts : (entries : List Described) (i : ℕ) (d : Described) (tasks : List EntryTask) → slice_get entries i ≡ Some d → list_any (λ j. eqb j i) (leaves tasks) ≡ false → (fault : SourceFault) → FaultIn entries (visits entries d.uses ++ Leave i ∷ tasks) fault → FaultIn entries (Visit (Some i) ∷ tasks) fault
enter-lifts entries i d tasks at off fault h =
    elim (faults-of-visits entries i tasks d.uses fault h) [
      | inl f ↦ inl (λ name index. below (found-at entries name i d index at) off f)
      | inr r ↦ inr ((merged d r.0.0, resolved-at entries i d r.0.0 at r.0.1), r.1)
    ]
