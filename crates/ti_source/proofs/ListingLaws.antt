-- Listing the fields of resolved entries: in how many steps, and what marks stand for them.
use Rattle.std.proofs.Common.{◌≡◌, ◌∙◌, ℕ, zero, suc, ◌+◌, ◌≤◌, ◌<◌, Bool, true, false, nat_lt, cond, List, [], ◌∷◌, ◌++◌, Option, Some, None, is_some, IfSome, Result, Ok, Err, OnOk, slice_get, map, take, refl, ap, sym, subst, append_assoc, arith, inl, inr}
use Rattle.std.proofs.lemmas.Bool.Decides.{nat_tests}
use Rattle.std.proofs.lemmas.List.{map-append}
use Rattle.ti_source.specs.declared.reading.statement.Statement.{Statement}
use Rattle.ti_source.specs.declared.resolving.marks.Mark.{Mark}
use Rattle.ti_source.specs.declared.resolving.marks.Mark.TheVariants.{Done, Over, Kept}
use Rattle.ti_source.specs.Described.{Described}
use Rattle.ti_source.specs.Resolving.Named.{index_of}
use Rattle.ti_source.specs.Code.FirstFields.{AreEffective}
use Rattle.ti_source.specs.Code.Leading.{Leads}
use Rattle.ti_source.specs.Code.EntryWalk.{Adds, AddsGathered, AreBelow, AreKnown, IsBelow, IsDone, IsLedOver, IsLight, IsOver, Keeps, Lists, TakeEffect, known, larger, steps_at, steps_of_all, steps_or_0}
use Rattle.ti_source.proofs.GatherLaws.{effective-lists, gathers-one, resolve-known, take-effect}
use Rattle.ti_source.proofs.IndexLaws.{take-at}

-- ---- steps

below-more : (marks : List Mark) (ps : List (Option ℕ)) (n m : ℕ) → n ≤ m → AreBelow marks ps n → AreBelow marks ps m
below-more marks [] n m le h = omega arith
below-more marks (p ∷ ps) n m le ((k, at, lt), rest) = ((k, at, omega arith), below-more marks ps n m le rest)

below-last : (marks : List Mark) (ps : List (Option ℕ)) (p : Option ℕ) (n : ℕ) → AreBelow marks ps n → IsBelow marks p n → AreBelow marks (ps ++ p ∷ []) n
below-last marks [] p n h one = (one, h)
below-last marks (q ∷ ps) p n h one = (h.0, below-last marks ps p n h.1 one)

-- the steps with those of one more use
pub below-push : (entries : List Described) (marks : List Mark) (us : List (List ℕ)) (k i : ℕ) (u : List ℕ) (n more all m : ℕ) → AreBelow marks (map (index_of entries) (take k us)) n → slice_get us k ≡ Some u → index_of entries u ≡ Some i → steps_at marks (Some i) ≡ Some m → m ≤ more → n + more ≤ all → AreBelow marks (map (index_of entries) (take (k + 1) us)) all
below-push entries marks us k i u n more all m below at index steps le sum =
    let some : 0 < n = first (map (index_of entries) (take k us)) below in
    let P : Option ℕ → Type 0 = λ p. IsBelow marks p all in
    let one : IsBelow marks (index_of entries u) all = subst P (sym index) (m, steps, omega arith) in
    let whole : map (index_of entries) (take (k + 1) us) ≡ map (index_of entries) (take k us) ++ index_of entries u ∷ [] = ap (map (index_of entries)) (take-at us k u at) ∙ map-append _ (take k us) (u ∷ []) in
    subst (λ ps. AreBelow marks ps all) (sym whole) (below-last marks (map (index_of entries) (take k us)) (index_of entries u) all (below-more marks (map (index_of entries) (take k us)) n all (omega arith) below) one)
  where
    first : (ps : List (Option ℕ)) → AreBelow marks ps n → 0 < n
    first [] h = h
    first (p ∷ ps) h = first ps h.1

pub below-all : (entries : List Described) (marks : List Mark) (us : List (List ℕ)) (k n m : ℕ) → AreBelow marks (map (index_of entries) (take k us)) n → take k us ≡ us → n ≤ m → AreBelow marks (map (index_of entries) us) m
below-all entries marks us k n m below whole le = below-more marks (map (index_of entries) us) n m le (subst (λ xs. AreBelow marks (map (index_of entries) xs) n) whole below)

pub below-known : (marks : List Mark) (ps : List (Option ℕ)) (n : ℕ) → AreBelow marks ps n → AreKnown marks ps
below-known marks [] n h = tt
below-known marks (p ∷ ps) n h = (ap is_some h.0.1, below-known marks ps n h.1)

-- the most steps of all are fewer
pub all-below : (marks : List Mark) (ps : List (Option ℕ)) (n : ℕ) → AreBelow marks ps n → steps_of_all marks ps < n
all-below marks [] n h = h
all-below marks (p ∷ ps) n h =
    let rest = all-below marks ps n h.1 in
    let one : steps_or_0 (steps_at marks p) < n = rw (h.0.1) (h.0.2) in
    by (nat_lt (steps_or_0 (steps_at marks p)) (steps_of_all marks ps)) rest one
  where
    by : (t : Bool) → steps_of_all marks ps < n → steps_or_0 (steps_at marks p) < n → cond t (steps_of_all marks ps) (steps_or_0 (steps_at marks p)) < n
    by true rest one = rest
    by false rest one = one

-- and those of each no more
pub steps-among : (entries : List Described) (marks : List Mark) (us : List (List ℕ)) (k i : ℕ) (u : List ℕ) → slice_get us k ≡ Some u → index_of entries u ≡ Some i → steps_or_0 (steps_at marks (Some i)) ≤ steps_of_all marks (map (index_of entries) us)
steps-among entries marks [] k i u at index = cc
steps-among entries marks (v ∷ us) zero i u at index =
    let same : v ≡ u = cc in
    let here : index_of entries v ≡ Some i = ap (index_of entries) same ∙ index in
    let P : Option ℕ → Type 0 = λ p. steps_or_0 (steps_at marks (Some i)) ≤ larger (steps_or_0 (steps_at marks p)) (steps_of_all marks (map (index_of entries) us)) in
    subst P (sym here) (grind (arith, nat_tests))
steps-among entries marks (v ∷ us) (suc k) i u at index =
    let rest = steps-among entries marks us k i u at index in
    grind (arith, nat_tests)

-- ---- marks

-- the fields of the entry that is listed for another
pub led-lists : (entries : List Described) (marks : List Mark) (i next n led : ℕ) (fields : List Statement) → IsOver entries marks i next n → IsLedOver entries i next led → Lists entries led fields → Lists entries i fields
led-lists entries marks i next n led fields over (inl e) l = subst (λ x. Lists entries x fields) e l
led-lists entries marks i next n led fields over (inr (e, (d, at, none))) l =
    let same : over.entry ≡ d = cc (over.at, at) in
    let own : over.entry.statements ++ fields ≡ fields = ap (λ (x : Described). x.statements ++ fields) same ∙ ap (λ ss. ss ++ fields) none in
    subst (λ fs. Lists entries i fs) own (over.leads fields (subst (λ x. Lists entries x fields) e l))

pub over-light : (entries : List Described) (marks : List Mark) (kept : List (List Statement)) (d : Described) (used next n : ℕ) (mark : Mark) → Keeps entries marks kept → AreKnown marks (map (index_of entries) d.uses) → Leads entries d used → ((fields : List Statement) → Lists entries next fields → Lists entries used fields) → mark ≡ Over next n → IsBelow marks (Some next) n → IsLight entries marks kept d mark
over-light entries marks kept d used next n mark keeps known leads led is below =
    let r = resolve-known entries marks kept d.uses keeps known in
    rw is (
      n,
      refl,
      λ i at. record {
        entry = d;
        at = at;
        used = r.0;
        resolved = r.1;
        below = below;
        leads = λ fields l. record { entry = d; at = at; gathers = leads fields (led fields l) };
      },
    )

pub done-light : (entries : List Described) (marks : List Mark) (kept : List (List Statement)) (d : Described) (n : ℕ) (mark : Mark) → Keeps entries marks kept → AreKnown marks (map (index_of entries) d.uses) → mark ≡ Done n → AreBelow marks (map (index_of entries) d.uses) n → IsLight entries marks kept d mark
done-light entries marks kept d n mark keeps known is below =
    let r = resolve-known entries marks kept d.uses keeps known in
    rw is (n, refl, λ i at. record { entry = d; at = at; used = r.0; resolved = r.1; below = below })

-- ---- lists

pub adds-kept : (entries : List Described) (i : ℕ) (fields before after : List Statement) → TakeEffect entries i fields → after ≡ before ++ fields → Adds entries i before after
adds-kept entries i fields before after t is = (fields, is, effective-lists entries i fields t)

pub adds-over : (entries : List Described) (marks : List Mark) (i next n : ℕ) (d : Described) (before own after : List Statement) → IsOver entries marks i next n → slice_get entries i ≡ Some d → own ≡ before ++ d.statements → Adds entries next own after → Adds entries i before after
adds-over entries marks i next n d before own after over at own-is (more, is, l) =
    let same : d ≡ over.entry = cc (at, over.at) in (
      over.entry.statements ++ more,
      is ∙ ap (λ fs. fs ++ more) (own-is ∙ ap (λ (x : Described). before ++ x.statements) same) ∙ append_assoc before over.entry.statements more,
      over.leads more l,
    )

pub adds-gathered : (entries : List Described) (i : ℕ) (d : Described) (before after : List Statement) → slice_get entries i ≡ Some d → AddsGathered entries d before after → Adds entries i before after
adds-gathered entries i d before after at (more, is, g) = (more, is, record { entry = d; at = at; gathers = g })

pub gathered-one : (entries : List Described) (d : Described) (name : List ℕ) (used : ℕ) (before own after : List Statement) → d.uses ≡ name ∷ [] → index_of entries name ≡ Some used → own ≡ before ++ d.statements → Adds entries used own after → AddsGathered entries d before after
gathered-one entries d name used before own after uses index own-is (more, is, l) = (
  d.statements ++ more,
  is ∙ ap (λ fs. fs ++ more) own-is ∙ append_assoc before d.statements more,
  gathers-one entries d name used more uses index l,
)

-- what follows of an answer
pub on-ok-more : {A E P Q : Type 0} → (r : Result A E) → OnOk r P → (P → Q) → OnOk r Q
on-ok-more (Ok x) h more = more h
on-ok-more (Err e) h more = h

pub some-more : {A : Type 0} → (o : Option A) (P Q : A → Type 0) → IfSome o P → ((x : A) → P x → Q x) → IfSome o Q
some-more None P Q h more = h
some-more (Some x) P Q h more = more x h

pub effective-added : (entries : List Described) (i : ℕ) (before after some : List Statement) → before ≡ [] → Adds entries i before after → AreEffective after some → TakeEffect entries i some
effective-added entries i before after some none (more, is, l) counts =
    let all : after ≡ more = is ∙ ap (λ fs. fs ++ more) none in
    take-effect entries i l.entry more some l.at l.gathers (subst (λ fs. AreEffective fs some) all counts)

-- what marks say
pub done-of : (entries : List Described) (marks : List Mark) (kept : List (List Statement)) (i n : ℕ) → Keeps entries marks kept → slice_get marks i ≡ Some (Done n) → IsDone entries marks i n
done-of entries marks kept i n keeps at = keeps i (Done n) at

pub over-of : (entries : List Described) (marks : List Mark) (kept : List (List Statement)) (i next n : ℕ) → Keeps entries marks kept → slice_get marks i ≡ Some (Over next n) → IsOver entries marks i next n
over-of entries marks kept i next n keeps at = keeps i (Over next n) at

pub kept-of : (entries : List Described) (marks : List Mark) (kept : List (List Statement)) (i k : ℕ) → Keeps entries marks kept → slice_get marks i ≡ Some (Kept k) → (fields : List Statement) × (slice_get kept k ≡ Some fields) × TakeEffect entries i fields
kept-of entries marks kept i k keeps at = keeps i (Kept k) at
