-- The way through uses, task by task.
use Rattle.std.proofs.Common.{◌≡◌, ◌≢◌, ◌∙◌, ℕ, zero, suc, ◌+◌, ◌*◌, ◌≤◌, ◌<◌, Bool, true, false, ◌||◌, eqb, List, [], ◌∷◌, ◌++◌, Option, Some, None, is_some, slice_get, map, set, length, replicate, reverse, refl, subst, ap, sym, arith, inl, inr}
use Rattle.std.specs.List.{list_any}
use Rattle.std.proofs.lemmas.List.{length-set, length-append, length-map, length-replicate}
use Rattle.std.proofs.lemmas.Bool.{eq-eqb, eqb-true}
use Rattle.std.proofs.lemmas.Bool.Decides.{nat_tests}
use Rattle.ti_source.specs.declared.faults.SourceFault.{SourceFault}
use Rattle.ti_source.specs.declared.faults.SourceFault.TheVariants.{UnknownName, UseCycle}
use Rattle.ti_source.specs.declared.reading.statement.Statement.{Statement}
use Rattle.ti_source.specs.declared.resolving.marks.Mark.{Mark}
use Rattle.ti_source.specs.declared.resolving.marks.Mark.TheVariants.{New, Open, Done, Over, Kept, Faulty}
use Rattle.ti_source.specs.declared.resolving.walk.EntryTask.{EntryTask}
use Rattle.ti_source.specs.declared.resolving.walk.EntryTask.TheVariants.{Visit, Leave}
use Rattle.ti_source.specs.declared.resolving.walk.EntryWalk.{EntryWalk}
use Rattle.ti_source.specs.Described.{Described}
use Rattle.ti_source.specs.Resolving.Named.{index_of}
use Rattle.ti_source.specs.Resolving.Uses.{cycle, merged, unknown}
use Rattle.ti_source.specs.Result.{Stops}
use Rattle.ti_source.specs.Code.EntryWalk.{visits, leaves, indices, FaultAt, FaultIn, known, AreKnown, IsLight, IsMarkOf, Keeps, TakeEffect, Within, IsWalk, count_new, one_if_new, steps_of, Stepped, StuckAt, IsReady, IsStopped, IsTakenBack, with_fault}
use Rattle.ti_source.proofs.ChainLaws.{awaited-done, awaited-entered, faulty-at, open-unknown, ready-again, ready-back}
use Rattle.ti_source.proofs.GatherLaws.{known-resolved, mark-resolved}
use Rattle.ti_source.proofs.LoweringLaws.{Extends, Lowers, lowers-set, mark-lower}
use Rattle.ti_source.proofs.NamedLaws.{found-none}
use Rattle.ti_source.proofs.IndexLaws.{get-append, get-cases, get-none, get-other, get-push, get-set, get-within}
use Rattle.ti_source.proofs.TaskLaws.{all-from, all-known, count-known, count-open, enter-lifts, found-at, held-mono, held-visits, known-set, leaves-visits, not-new, index-there, resolved-at, indices-visits}

-- ---- each kind of task

pub entered-stepped : (entries : List Described) (marks after : List Mark) (kept : List (List Statement)) (i : ℕ) (d : Described) (tasks left : List EntryTask) → IsWalk entries marks kept (Visit (Some i) ∷ tasks) → slice_get marks i ≡ Some New → slice_get entries i ≡ Some d → length d.uses ≤ 32 → after ≡ set marks i Open → left ≡ visits entries d.uses ++ Leave i ∷ tasks → Stepped entries marks (Visit (Some i) ∷ tasks) after kept left
entered-stepped entries marks after kept i d tasks left w new at few after-is left-is =
    rw (after-is, left-is) (record {
      walk = record {
        sized = length-set marks i Open ∙ w.sized;
        opened = λ j e. rw leaves-are (elim (get-cases marks i Open j Open e) [
          | inl h ↦ grind (arith, nat_tests)
          | inr h ↦ let b = w.opened j h.1 in either (eqb i j) (list_any (λ x. eqb x j) (leaves tasks)) b
        ]);
        fresh = λ j e. rw leaves-are (elim (get-cases marks i Open j New e) [
          | inl h ↦ absurd (cc (h.1))
          | inr h ↦ let b = w.fresh j h.1 in neither (eqb i j) (list_any (λ x. eqb x j) (leaves tasks)) (differs i j h.0) b
        ]);
        chain = λ j on. chained j (eqb i j) refl (sym (ap (λ ls. list_any (λ x. eqb x j) ls) leaves-are) ∙ on);
        keeps = λ j m e. elim (get-cases marks i Open j m e) [ inl h ↦ rw (h.1) tt | inr h ↦ mark-lower entries marks (set marks i Open) kept kept j m (lowers-set marks i Open (rw new refl)) (λ k fields there. there) (w.keeps j m h.1) ];
        held = held-visits entries (set marks i Open) d.uses [] (Leave i ∷ tasks) (λ firsts sub. (
          (d, at, all-from (set marks i Open) firsts (map (index_of entries) d.uses) (λ p a. sub p (inl a))),
          held-mono entries marks (set marks i Open) (Some i ∷ []) (Some i ∷ firsts) tasks (λ p x. by-index p firsts x) w.held,
        ));
        awaited = awaited-entered entries i d tasks at (w.fresh i new) w.awaited;
        faulty = λ j f e. elim (get-cases marks i Open j (Faulty f) e) [ inl h ↦ absurd (cc (h.1)) | inr h ↦ w.faulty j f h.1 ];
      };
      lifts = enter-lifts entries i d tasks at (w.fresh i new);
      carries = λ p x. indices-visits (set marks i Open) entries d.uses (Leave i ∷ tasks) p (carried p x);
      less = count;
    })
  where
    leaves-are : leaves (visits entries d.uses ++ Leave i ∷ tasks) ≡ i ∷ leaves tasks
    leaves-are = leaves-visits entries d.uses (Leave i ∷ tasks)

    either : (a b : Bool) → b ≡ true → (a || b) ≡ true
    either true b e = refl
    either false b e = e

    neither : (a b : Bool) → a ≡ false → b ≡ false → (a || b) ≡ false
    neither true b p e = cc
    neither false b p e = e

    differs : (a b : ℕ) → b ≢ a → eqb a b ≡ false
    differs a b ne = grind (arith, nat_tests)

    chained : (j : ℕ) (t : Bool) → eqb i j ≡ t → (t || list_any (λ x. eqb x j) (leaves tasks)) ≡ true → slice_get (set marks i Open) j ≡ Some Open
    chained j true is on = subst (λ k. slice_get (set marks i Open) k ≡ Some Open) (eqb-true i j is) (get-set marks i Open New new)
    chained j false is on = get-other marks i j Open (grind (arith, nat_tests)) ∙ w.chain j on

    stays : (p : Option ℕ) → known marks p ≡ true → known (set marks i Open) p ≡ true
    stays p h = known-set marks i Open p (λ k. absurd (not-new (slice_get marks i) new k)) h

    by-index : (p : Option ℕ) (firsts : List (Option ℕ)) → Within marks (Some i ∷ []) p → Within (set marks i Open) (Some i ∷ firsts) p
    by-index p firsts (inl k) = inl (stays p k)
    by-index p firsts (inr (inl e)) = inr (inl e)
    by-index p firsts (inr (inr a)) = absurd a

    carried : (p : Option ℕ) → Within marks (Some i ∷ indices tasks) p → Within (set marks i Open) (Some i ∷ indices tasks) p
    carried p (inl k) = inl (stays p k)
    carried p (inr a) = inr a

    count : 34 * count_new (set marks i Open) + length (visits entries d.uses ++ Leave i ∷ tasks) < 34 * count_new marks + suc (length tasks)
    count =
        let one = count-open marks i new in
        let all = length-append (visits entries d.uses) (Leave i ∷ tasks) in
        let own = length-map d.uses (λ name. Visit (index_of entries name)) in
        omega arith

-- a mark that is known
pub done-stepped : (entries : List Described) (marks : List Mark) (kept : List (List Statement)) (i : ℕ) (m : Mark) (tasks : List EntryTask) → IsWalk entries marks kept (Visit (Some i) ∷ tasks) → slice_get marks i ≡ Some m → is_some (steps_of (Some m)) ≡ true → Stepped entries marks (Visit (Some i) ∷ tasks) marks kept tasks
done-stepped entries marks kept i m tasks w at some =
    let r = known-resolved entries marks kept i w.keeps there in
    let resolved = resolved-at entries i r.entry r.used r.at r.resolved in
    record {
      walk = record {
        sized = w.sized;
        opened = w.opened;
        fresh = w.fresh;
        chain = w.chain;
        keeps = w.keeps;
        held = held-mono entries marks marks (Some i ∷ []) [] tasks (λ p x. known-first p [] x) w.held;
        awaited = awaited-done entries tasks [] (Some i) (merged r.entry r.used) resolved w.awaited;
        faulty = w.faulty;
      };
      lifts = λ fault h. inr ((merged r.entry r.used, resolved), h);
      carries = λ p x. known-first p (indices tasks) x;
      less = omega arith;
    }
  where
    there : known marks (Some i) ≡ true
    there = ap (λ o. is_some (steps_of o)) at ∙ some

    known-first : (p : Option ℕ) (firsts : List (Option ℕ)) → Within marks (Some i ∷ firsts) p → Within marks firsts p
    known-first p firsts (inl h) = inl h
    known-first p firsts (inr (inl e)) = inl (rw e there)
    known-first p firsts (inr (inr a)) = inr a

known-old : (m : Mark) → is_some (steps_of (Some m)) ≡ true → one_if_new m ≡ 0
known-old New h = cc
known-old Open h = refl
known-old (Done n) h = refl
known-old (Over k n) h = refl
known-old (Kept k) h = refl
known-old (Faulty f) h = refl

-- an entry that is left with a mark that is known
done-left : (entries : List Described) (marks after : List Mark) (kept after_kept : List (List Statement)) (i : ℕ) (mark : Mark) (tasks : List EntryTask) → IsWalk entries marks kept (Leave i ∷ tasks) → is_some (steps_of (Some mark)) ≡ true → IsMarkOf entries marks after_kept i mark → Extends kept after_kept → after ≡ set marks i mark → Stepped entries marks (Leave i ∷ tasks) after after_kept tasks
done-left entries marks after kept after_kept i mark tasks w some says extends after-is =
    let r = mark-resolved entries marks after_kept i mark some says in
    rw after-is (record {
      walk = record {
        sized = length-set marks i mark ∙ w.sized;
        opened = λ j e. elim (get-cases marks i mark j Open e) [
          | inl h ↦ absurd (open-unknown mark (sym (h.1)) some)
          | inr h ↦ let b = w.opened j h.1 in other (eqb i j) (list_any (λ x. eqb x j) (leaves tasks)) (differs i j h.0) b
        ];
        fresh = λ j e. elim (get-cases marks i mark j New e) [
          | inl h ↦ absurd (new-unknown mark (sym (h.1)) some)
          | inr h ↦ let b = w.fresh j h.1 in none (eqb i j) (list_any (λ x. eqb x j) (leaves tasks)) b
        ];
        chain = λ j on. chained j on (eqb j i) refl;
        keeps = λ j m e. elim (get-cases marks i mark j m e) [
          | inl h ↦ rw (h.0, h.1) (mark-lower entries marks (set marks i mark) after_kept after_kept i mark lowers (λ k fields there. there) says)
          | inr h ↦ mark-lower entries marks (set marks i mark) kept after_kept j m lowers extends (w.keeps j m h.1)
        ];
        held = held-mono entries marks (set marks i mark) (Some i ∷ []) [] tasks (λ p x. known-first p [] x) w.held.1;
        awaited = awaited-done entries tasks [] (Some i) (merged r.entry r.used) (resolved-at entries i r.entry r.used r.at r.resolved) w.awaited.1;
        faulty = λ j f e. elim (get-cases marks i mark j (Faulty f) e) [ inl h ↦ absurd (faulty-unknown f mark (sym (h.1)) some) | inr h ↦ w.faulty j f h.1 ];
      };
      lifts = λ fault h. h;
      carries = λ p x. known-first p (indices tasks) x;
      less = let fewer = count-known marks i mark (known-old mark some) in omega arith;
    })
  where
    other : (a b : Bool) → a ≡ false → (a || b) ≡ true → b ≡ true
    other true b p e = cc
    other false b p e = e

    none : (a b : Bool) → (a || b) ≡ false → b ≡ false
    none true b e = cc
    none false b e = e

    either : (a b : Bool) → b ≡ true → (a || b) ≡ true
    either true b e = refl
    either false b e = e

    differs : (a b : ℕ) → b ≢ a → eqb a b ≡ false
    differs a b ne = grind (arith, nat_tests)

    new-unknown : (m : Mark) → m ≡ New → is_some (steps_of (Some m)) ≡ true → ⊥
    new-unknown m is h = let bad : is_some (steps_of (Some New)) ≡ true = ap (λ x. is_some (steps_of (Some x))) (sym is) ∙ h in cc

    faulty-unknown : (f : SourceFault) (m : Mark) → m ≡ Faulty f → is_some (steps_of (Some m)) ≡ true → ⊥
    faulty-unknown f m is h = let bad : is_some (steps_of (Some (Faulty f))) ≡ true = ap (λ x. is_some (steps_of (Some x))) (sym is) ∙ h in cc

    open_is : slice_get marks i ≡ Some Open
    open_is = let self : eqb i i ≡ true = eq-eqb i i refl in w.chain i (rw self refl)

    lowers : Lowers marks (set marks i mark)
    lowers = lowers-set marks i mark (ap (λ o. is_some (steps_of o)) open_is)

    chained : (j : ℕ) → list_any (λ x. eqb x j) (leaves tasks) ≡ true → (t : Bool) → eqb j i ≡ t → slice_get (set marks i mark) j ≡ Some Open
    chained j on true is =
        let again : list_any (λ x. eqb x i) (leaves tasks) ≡ true = ap (λ k. list_any (λ x. eqb x k) (leaves tasks)) (sym (eqb-true j i is)) ∙ on in
        absurd (cc (again, w.awaited.0.once))
    chained j on false is =
        get-other marks i j mark (grind (arith, nat_tests)) ∙ w.chain j (either (eqb i j) (list_any (λ x. eqb x j) (leaves tasks)) on)

    there : known (set marks i mark) (Some i) ≡ true
    there = rw (get-set marks i mark Open open_is) some

    known-first : (p : Option ℕ) (firsts : List (Option ℕ)) → Within marks (Some i ∷ firsts) p → Within (set marks i mark) firsts p
    known-first p firsts (inl h) = inl (known-set marks i mark p (λ _. some) h)
    known-first p firsts (inr (inl e)) = inl (rw e there)
    known-first p firsts (inr (inr a)) = inr a

pub left-stepped : (entries : List Described) (marks after : List Mark) (kept after_kept : List (List Statement)) (i : ℕ) (fields : List Statement) (tasks : List EntryTask) → IsWalk entries marks kept (Leave i ∷ tasks) → TakeEffect entries i fields → after ≡ set marks i (Kept (length kept)) → after_kept ≡ kept ++ fields ∷ [] → Stepped entries marks (Leave i ∷ tasks) after after_kept tasks
left-stepped entries marks after kept after_kept i fields tasks w keep after-is kept-is =
    rw kept-is (done-left entries marks after kept (kept ++ fields ∷ []) i (Kept (length kept)) tasks w refl (fields, get-push kept fields, keep) (λ j others at. get-append kept (fields ∷ []) j others at) after-is)

-- the same where no fields are kept
pub light-stepped : (entries : List Described) (marks after : List Mark) (kept : List (List Statement)) (i : ℕ) (d : Described) (mark : Mark) (tasks : List EntryTask) → IsWalk entries marks kept (Leave i ∷ tasks) → slice_get entries i ≡ Some d → IsLight entries marks kept d mark → after ≡ set marks i mark → Stepped entries marks (Leave i ∷ tasks) after kept tasks
light-stepped entries marks after kept i d mark tasks w at light after-is =
    done-left entries marks after kept kept i mark tasks w (ap is_some light.1) (light.2 i at) (λ j others there. there) after-is

-- an entry that was all that is left is as one that was not entered
pub finished-ready : (entries : List Described) (marks after : List Mark) (kept : List (List Statement)) (i : ℕ) → IsWalk entries marks kept (Leave i ∷ []) → after ≡ set marks i New → IsWalk entries after kept []
finished-ready entries marks after kept i w after-is = ready-back entries marks after kept (Leave i ∷ []) w (rw after-is (record {
  sized = length-set marks i New;
  others = λ j mark e ne. by j mark e ne (eqb j i) refl;
  stay = λ j mark e. elim (get-cases marks i New j mark e) [
    | inl h ↦ inl (cc (h.1))
    | inr h ↦ inr (h.1, λ on. let b = w.opened j (h.1 ∙ ap Some on) in other (eqb i j) (differs i j h.0) b)
  ];
}))
  where
    other : (a : Bool) → a ≡ false → (a || false) ≡ true → ⊥
    other true p e = cc
    other false p e = cc

    differs : (a b : ℕ) → b ≢ a → eqb a b ≡ false
    differs a b ne = grind (arith, nat_tests)

    by : (j : ℕ) (mark : Mark) → slice_get marks j ≡ Some mark → mark ≢ Open → (t : Bool) → eqb j i ≡ t → slice_get (set marks i New) j ≡ Some mark
    by j mark at ne true is =
        let self : eqb i i ≡ true = eq-eqb i i refl in
        let open_is : slice_get marks i ≡ Some Open = w.chain i (rw self refl) in
        let here : slice_get marks i ≡ Some mark = ap (slice_get marks) (sym (eqb-true j i is)) ∙ at in
        let same : mark ≡ Open = cc (here, open_is) in
        absurd (ne same)
    by j mark at ne false is = get-other marks i j New (grind (arith, nat_tests)) ∙ at

pub leave-known : (entries : List Described) (marks : List Mark) (kept : List (List Statement)) (i : ℕ) (tasks : List EntryTask) → IsWalk entries marks kept (Leave i ∷ tasks) → (d : Described) × (slice_get entries i ≡ Some d) × AreKnown marks (map (index_of entries) d.uses)
leave-known entries marks kept i tasks w = (w.held.0.0, w.held.0.1, all-known marks (map (index_of entries) w.held.0.0.uses) w.held.0.2)

pub cycle-at : (entries : List Described) (marks : List Mark) (kept : List (List Statement)) (i : ℕ) (tasks : List EntryTask) → IsWalk entries marks kept (Visit (Some i) ∷ tasks) → slice_get marks i ≡ Some Open → FaultAt entries (leaves tasks) (Some i) UseCycle
cycle-at entries marks kept i tasks w at name index =
    let lt = index-there entries name i index in
    let d = get-within entries i lt in
    cycle (found-at entries name i d.0 index d.1) (w.opened i at)

pub past-at : (entries : List Described) (marks : List Mark) (kept : List (List Statement)) (i : ℕ) (tasks : List EntryTask) → IsWalk entries marks kept (Visit (Some i) ∷ tasks) → slice_get marks i ≡ None → FaultAt entries (leaves tasks) (Some i) UnknownName
past-at entries marks kept i tasks w none name index =
    let lt = index-there entries name i index in let all = w.sized in let past = get-none marks i none in absurd (omega arith)

pub marked-at : (entries : List Described) (marks : List Mark) (kept : List (List Statement)) (i : ℕ) (fault : SourceFault) (tasks : List EntryTask) → IsWalk entries marks kept (Visit (Some i) ∷ tasks) → slice_get marks i ≡ Some (Faulty fault) → FaultAt entries (leaves tasks) (Some i) fault
marked-at entries marks kept i fault tasks w at = faulty-at entries tasks i fault w.awaited (w.faulty i fault at)

pub unknown-at : (entries : List Described) (chain : List ℕ) → FaultAt entries chain None UnknownName
unknown-at entries chain name index = unknown (found-none name entries (sym index))

-- ---- the whole way to a place

pub record IsReaching (entries : List Described) (before : List Mark) (index : Option ℕ) (marks : List Mark) (kept : List (List Statement)) (tasks : List EntryTask) : Type 0 where
  pub walk : IsWalk entries marks kept tasks
  pub lifts : (fault : SourceFault) → FaultIn entries tasks fault → FaultIn entries (Visit index ∷ []) fault
  pub carries : (p : Option ℕ) → Within before (index ∷ []) p → Within marks (indices tasks) p

pub reaching-init : (entries : List Described) (marks : List Mark) (kept : List (List Statement)) (index : Option ℕ) (tasks : List EntryTask) → IsWalk entries marks kept [] → tasks ≡ Visit index ∷ [] → IsReaching entries marks index marks kept tasks
reaching-init entries marks kept index tasks w is =
    rw is (record {
      walk = record { sized = w.sized; opened = w.opened; fresh = w.fresh; chain = w.chain; keeps = w.keeps; held = tt; awaited = tt; faulty = w.faulty };
      lifts = λ fault h. h;
      carries = λ p h. h;
    })

pub reaching-go : (entries : List Described) (before : List Mark) (index : Option ℕ) (marks after : List Mark) (kept after_kept : List (List Statement)) (tasks left : List EntryTask) → IsReaching entries before index marks kept tasks → Stepped entries marks tasks after after_kept left → IsReaching entries before index after after_kept left
reaching-go entries before index marks after kept after_kept tasks left r s =
    record {
      walk = s.walk;
      lifts = λ fault h. r.lifts fault (s.lifts fault h);
      carries = λ p h. s.carries p (r.carries p h);
    }

pub reaching-known : (entries : List Described) (before : List Mark) (index : Option ℕ) (marks : List Mark) (kept : List (List Statement)) (tasks : List EntryTask) → IsReaching entries before index marks kept tasks → tasks ≡ [] → known marks index ≡ true
reaching-known entries before index marks kept tasks r none =
    let P : List EntryTask → Type 0 = λ ts. Within marks (indices ts) index in
    elim (subst P none (r.carries index (inr (inl refl)))) [ inl k ↦ k | inr a ↦ absurd a ]

pub reaching-fault : (entries : List Described) (before : List Mark) (index : Option ℕ) (marks : List Mark) (kept : List (List Statement)) (tasks : List EntryTask) (fault : SourceFault) → IsReaching entries before index marks kept tasks → FaultIn entries tasks fault → FaultAt entries [] index fault
reaching-fault entries before index marks kept tasks fault r h =
    elim (r.lifts fault h) [ inl f ↦ f | inr x ↦ absurd x.1 ]

pub stuck-fault : (entries : List Described) (before : List Mark) (index : Option ℕ) (w after : EntryWalk) (task : EntryTask) (fault : SourceFault) → IsReaching entries before index w.marks.items w.kept.items (task ∷ reverse w.tasks.items) → StuckAt entries w task fault after → FaultAt entries [] index fault
stuck-fault entries before index w after task fault r s =
    reaching-fault entries before index w.marks.items w.kept.items (task ∷ reverse w.tasks.items) fault r (rw (s.visit) (inl s.stuck))

pub stuck-ready : (entries : List Described) (before : List Mark) (index : Option ℕ) (w after : EntryWalk) (task : EntryTask) (fault : SourceFault) (marks : List Mark) → IsReaching entries before index w.marks.items w.kept.items (task ∷ reverse w.tasks.items) → StuckAt entries w task fault after → marks ≡ with_fault fault (leaves (reverse after.tasks.items)) after.marks.items → IsWalk entries marks after.kept.items []
stuck-ready entries before index w after task fault marks r s is =
    let walk = subst (λ t. IsWalk entries w.marks.items w.kept.items (t ∷ reverse w.tasks.items)) s.visit r.walk in
    let marked = is ∙ ap (λ (x : EntryWalk). with_fault fault (leaves (reverse x.tasks.items)) x.marks.items) s.same in
    let ready = ready-again entries w.marks.items marks w.kept.items s.index (reverse w.tasks.items) fault walk s.stuck marked in
    subst (λ (x : EntryWalk). IsWalk entries marks x.kept.items []) (sym s.same) ready

pub stopped-ready : (entries : List Described) (before : List Mark) (index : Option ℕ) (w after stopped : EntryWalk) (task : EntryTask) (fault : SourceFault) → IsReaching entries before index w.marks.items w.kept.items (task ∷ reverse w.tasks.items) → Stops fault (StuckAt entries w task fault after) → (after.marks.items ≡ w.marks.items) × (after.kept.items ≡ w.kept.items) → IsStopped fault (leaves (reverse after.tasks.items)) after.marks.items stopped.marks.items → stopped.kept.items ≡ after.kept.items → stopped.tasks.items ≡ [] → IsReady entries stopped
stopped-ready entries before index w after stopped task fault r why same marks kept none = (
  elim marks [
    | inl h ↦
        let back = subst (λ ms. IsTakenBack ms stopped.marks.items) same.0 h.1 in
        subst (λ ks. IsWalk entries stopped.marks.items ks []) (sym (kept ∙ same.1)) (ready-back entries w.marks.items stopped.marks.items w.kept.items (task ∷ reverse w.tasks.items) r.walk back)
    | inr h ↦ elim why [
      | inl e ↦ absurd (h.0 e)
      | inr s ↦ subst (λ ks. IsWalk entries stopped.marks.items ks []) (sym kept) (stuck-ready entries before index w after task fault stopped.marks.items r s h.1)
    ]
  ],
  ap reverse none,
)

pub walk-new : (entries : List Described) (marks : List Mark) (kept : List (List Statement)) → marks ≡ replicate (length entries) New → IsWalk entries marks kept []
walk-new entries marks kept is =
    rw is (record {
      sized = length-replicate (length entries) New;
      opened = λ i e. absurd (only (length entries) i Open e (λ p. cc));
      fresh = λ i e. refl;
      chain = λ i on. cc;
      keeps = fresh-marks;
      held = tt;
      awaited = tt;
      faulty = λ i fault e. absurd (only (length entries) i (Faulty fault) e (λ p. cc));
    })
  where
    only : (n i : ℕ) (m : Mark) → slice_get (replicate n New) i ≡ Some m → (m ≡ New → ⊥) → ⊥
    only zero i m e ne = cc
    only (suc n) zero m e ne = ne (cc)
    only (suc n) (suc i) m e ne = only n i m e ne

    fresh-marks : Keeps entries (replicate (length entries) New) kept
    fresh-marks i New e = tt
    fresh-marks i Open e = tt
    fresh-marks i (Faulty f) e = tt
    fresh-marks i (Done n) e = absurd (only (length entries) i (Done n) e (λ p. cc))
    fresh-marks i (Over next n) e = absurd (only (length entries) i (Over next n) e (λ p. cc))
    fresh-marks i (Kept k) e = absurd (only (length entries) i (Kept k) e (λ p. cc))
