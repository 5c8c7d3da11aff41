-- Names resolve once, have one fault, and not both.
use Rattle.std.proofs.Common.{◌≡◌, ◌∙◌, ℕ, suc, ◌+◌, ◌-◌, ◌≤◌, Bool, true, false, ◌||◌, eqb, List, [], ◌∷◌, Option, Some, None, Result, Ok, Err, IfErr, inl, inr, slice_get, refl, ap, sym, subst, arith}
use Rattle.std.specs.Prelude.{IsOkUnless}
use Rattle.std.specs.List.{list_any}
use Rattle.std.proofs.lemmas.Bool.{eqb-true, eq-eqb}
use Rattle.ti_caps.specs.Description.{Description}
use Rattle.ti_source.specs.declared.faults.SourceFault.{SourceFault}
use Rattle.ti_source.specs.declared.faults.SourceFault.TheVariants.{UnknownName, UseCycle, NoMemory}
use Rattle.ti_source.specs.Described.{Described}
use Rattle.ti_source.specs.Resolving.Named.{found_from, index_of}
use Rattle.ti_source.specs.Resolving.Uses.{merged, Resolve, nothing, more, Fault, unknown, cycle, below, later, Resolved, Unresolved, FaultOnce, ResolveOrFault}
use Rattle.ti_source.specs.Result.{Stops}
use Rattle.ti_source.specs.Code.EntryWalk.{FaultAt}
use Rattle.ti_source.proofs.NamedLaws.{found-there}

-- ---- what a resolved list of names rests on

record First (entries : List Described) (name : List ℕ) (names : List (List ℕ)) (ds : List Description) : Type 0 where
  found : ℕ × Described
  used : List Description
  rest : List Description
  finds : found_from 0 name entries ≡ Some found
  uses : Resolve entries found.1.uses used
  others : Resolve entries names rest
  all : ds ≡ merged found.1 used ∷ rest

first-of : {entries : List Described} {name : List ℕ} {names ns : List (List ℕ)} {ds : List Description} → Resolve entries ns ds → ns ≡ name ∷ names → First entries name names ds
first-of nothing p = cc
first-of {entries} {name} {names} (more {name = n} {names = ms} {found = found} {used = used} {ds = es} {d = d} finds uses is rest) p =
    let named : n ≡ name = cc in
    let further : ms ≡ names = cc in
    record { found = found; used = used; rest = es; finds = ap (λ x. found_from 0 x entries) (sym named) ∙ finds; uses = uses; others = subst (λ x. Resolve entries x es) further rest; all = ap (λ x. x ∷ es) is }

none-of : {entries : List Described} {ns : List (List ℕ)} {ds : List Description} → Resolve entries ns ds → ns ≡ [] → ds ≡ []
none-of nothing p = refl
none-of (more finds uses is rest) p = cc

same-found : {A : Type 0} {o : Option A} {x y : A} → o ≡ Some x → o ≡ Some y → x ≡ y
same-found p q = cc

pub resolve-once : {entries : List Described} {names : List (List ℕ)} {ds es : List Description} → Resolve entries names ds → Resolve entries names es → ds ≡ es
resolve-once nothing r = sym (none-of r refl)
resolve-once {entries} (more {found = found} {used = used} {ds = ds} {d = d} finds uses is rest) r =
    let other = first-of r refl in
    let found_is : other.found ≡ found = same-found other.finds finds in
    let used_is : used ≡ other.used = resolve-once uses (subst (λ x. Resolve entries x other.used) (ap (λ (f : ℕ × Described). f.1.uses) found_is) other.uses) in
    let rest_is : ds ≡ other.rest = resolve-once rest other.others in
    (λ i. (is ∙ (λ j. merged (sym found_is j).1 (used_is j))) i ∷ rest_is i) ∙ sym other.all

-- ---- how many entries a resolved list of names takes in

data Sized (entries : List Described) : ℕ → List (List ℕ) → Type 0 where
  none : Sized entries 0 []
  some : {name : List ℕ} {names : List (List ℕ)} {found : ℕ × Described} {a b : ℕ} → found_from 0 name entries ≡ Some found → Sized entries a found.1.uses → Sized entries b names → Sized entries (suc (a + b)) (name ∷ names)

record Head (entries : List Described) (size : ℕ) (name : List ℕ) (names : List (List ℕ)) : Type 0 where
  found : ℕ × Described
  a : ℕ
  b : ℕ
  finds : found_from 0 name entries ≡ Some found
  uses : Sized entries a found.1.uses
  others : Sized entries b names
  all : size ≡ suc (a + b)

head-of : {entries : List Described} {size : ℕ} {name : List ℕ} {names ns : List (List ℕ)} → Sized entries size ns → ns ≡ name ∷ names → Head entries size name names
head-of none p = cc
head-of {entries} {size} {name} {names} (some {name = n} {names = ms} {found = found} {a = a} {b = b} finds uses rest) p =
    let named : n ≡ name = cc in
    let further : ms ≡ names = cc in
    record { found = found; a = a; b = b; finds = ap (λ x. found_from 0 x entries) (sym named) ∙ finds; uses = uses; others = subst (λ x. Sized entries b x) further rest; all = refl }

empty-of : {entries : List Described} {size : ℕ} {ns : List (List ℕ)} → Sized entries size ns → ns ≡ [] → size ≡ 0
empty-of none p = refl
empty-of (some finds uses rest) p = cc

sized-once : {entries : List Described} {names : List (List ℕ)} {m n : ℕ} → Sized entries m names → Sized entries n names → m ≡ n
sized-once none r = sym (empty-of r refl)
sized-once {entries} (some {found = found} {a = a} {b = b} finds uses rest) r =
    let other = head-of r refl in
    let found_is : other.found ≡ found = same-found other.finds finds in
    let a_is : a ≡ other.a = sized-once uses (subst (λ x. Sized entries other.a x) (ap (λ (f : ℕ × Described). f.1.uses) found_is) other.uses) in
    let b_is : b ≡ other.b = sized-once rest other.others in
    (λ i. suc (a_is i + b_is i)) ∙ sym other.all

sized : {entries : List Described} {names : List (List ℕ)} {ds : List Description} → Resolve entries names ds → (n : ℕ) × Sized entries n names
sized nothing = (0, none)
sized (more {found = found} finds uses is rest) =
    let one = sized uses in
    let two = sized rest in
    (suc (one.0 + two.0), some {found = found} finds one.1 two.1)

-- ---- faults

there : (entries : List Described) (name : List ℕ) (found : ℕ × Described) → found_from 0 name entries ≡ Some found → slice_get entries found.0 ≡ Some found.1
there entries name found e =
    let at = found-there 0 name entries found.0 found.1 e in
    let z : found.0 - 0 ≡ found.0 = omega arith in
    ap (slice_get entries) (sym z) ∙ at.1

abbrev on_chain : List ℕ → ℕ → Type 0
on_chain chain i = list_any (λ j. eqb j i) chain ≡ true

-- no entry of the chain resolves with less than this
abbrev Above : List Described → List ℕ → ℕ → Type 0
Above entries chain n = (i : ℕ) → on_chain chain i → (d : Described) → slice_get entries i ≡ Some d → (m : ℕ) → Sized entries m d.uses → n ≤ m

above-more : (entries : List Described) (chain : List ℕ) (found : ℕ × Described) (n a : ℕ) → slice_get entries found.0 ≡ Some found.1 → Sized entries a found.1.uses → a ≤ n → Above entries chain n → Above entries (found.0 ∷ chain) a
above-more entries chain found n a at uses less above i on d here m more_uses = by (eqb found.0 i) refl on
  where
    by : (t : Bool) → eqb found.0 i ≡ t → (t || list_any (λ j. eqb j i) chain) ≡ true → a ≤ m
    by true e on =
        let same : found.0 ≡ i = eqb-true found.0 i e in
        let self : slice_get entries i ≡ Some found.1 = ap (slice_get entries) (sym same) ∙ at in
        let whole : found.1 ≡ d = same-found self here in
        let size : a ≡ m = sized-once uses (subst (λ (x : Described). Sized entries m x.uses) (sym whole) more_uses) in
        omega arith
    by false e on =
        let old : n ≤ m = above i on d here m more_uses in
        omega arith

not-both : {entries : List Described} {chain : List ℕ} {names : List (List ℕ)} {fault : SourceFault} → (n : ℕ) → Fault entries chain names fault → Sized entries n names → Above entries chain n → ⊥
not-both n (unknown e) size above =
    let head = head-of size refl in
    cc (e, head.finds)
not-both {entries} n (cycle {name = name} {found = found} e on) size above =
    let head = head-of size refl in
    let same : head.found ≡ found = same-found head.finds e in
    let less : n ≤ head.a = above found.0 on found.1 (there entries name found e) head.a (subst (λ (f : ℕ × Described). Sized entries head.a f.1.uses) same head.uses) in
    let all : n ≡ suc (head.a + head.b) = head.all in
    absurd (omega arith)
not-both {entries} {chain} n (below {name = name} {found = found} e off fault) size above =
    let head = head-of size refl in
    let same : head.found ≡ found = same-found head.finds e in
    let uses : Sized entries head.a found.1.uses = subst (λ (f : ℕ × Described). Sized entries head.a f.1.uses) same head.uses in
    let all : n ≡ suc (head.a + head.b) = head.all in
    let less : head.a ≤ n = omega arith in
    not-both head.a fault uses (above-more entries chain found n head.a (there entries name found e) uses less above)
not-both n (later resolved fault) size above =
    let head = head-of size refl in
    let all : n ≡ suc (head.a + head.b) = head.all in
    let less : head.b ≤ n = omega arith in
    not-both head.b fault head.others (λ i on d at m uses. let old : n ≤ m = above i on d at m uses in omega arith)

-- no entry of the chain resolves
abbrev Open : List Described → List ℕ → Type 0
Open entries chain = (i : ℕ) → on_chain chain i → (d : Described) → slice_get entries i ≡ Some d → (m : ℕ) → Sized entries m d.uses → ⊥

open-more : (entries : List Described) (chain : List ℕ) (found : ℕ × Described) (fault : SourceFault) → slice_get entries found.0 ≡ Some found.1 → Fault entries (found.0 ∷ chain) found.1.uses fault → Open entries chain → Open entries (found.0 ∷ chain)
open-more entries chain found fault at is still i on d here m more_uses = by (eqb found.0 i) refl on
  where
    by : (t : Bool) → eqb found.0 i ≡ t → (t || list_any (λ j. eqb j i) chain) ≡ true → ⊥
    by true e on =
        let same : found.0 ≡ i = eqb-true found.0 i e in
        let self : slice_get entries i ≡ Some found.1 = ap (slice_get entries) (sym same) ∙ at in
        let whole : found.1 ≡ d = same-found self here in
        let uses : Sized entries m found.1.uses = subst (λ (x : Described). Sized entries m x.uses) (sym whole) more_uses in
        let self_less : m ≤ m = omega arith in
        not-both m is uses (above-more entries chain found m m at uses self_less (λ j o x y k u. absurd (still j o x y k u)))
    by false e on = still i on d here m more_uses

-- what a fault of names is, by the first of them
data FirstFault (entries : List Described) (chain : List ℕ) (name : List ℕ) (names : List (List ℕ)) (fault : SourceFault) : Type 0 where
  is_unknown : found_from 0 name entries ≡ None → fault ≡ UnknownName → FirstFault entries chain name names fault
  is_cycle : (found : ℕ × Described) → found_from 0 name entries ≡ Some found → on_chain chain found.0 → fault ≡ UseCycle → FirstFault entries chain name names fault
  is_below : (found : ℕ × Described) → found_from 0 name entries ≡ Some found → list_any (λ j. eqb j found.0) chain ≡ false → Fault entries (found.0 ∷ chain) found.1.uses fault → FirstFault entries chain name names fault
  is_later : (d : Description) → Resolved entries name d → Fault entries chain names fault → FirstFault entries chain name names fault

fault-of : {entries : List Described} {chain : List ℕ} {name : List ℕ} {names ns : List (List ℕ)} {fault : SourceFault} → Fault entries chain ns fault → ns ≡ name ∷ names → FirstFault entries chain name names fault
fault-of {entries} {chain} {name} {names} (unknown {name = n} e) p =
    let named : n ≡ name = cc in
    is_unknown (ap (λ x. found_from 0 x entries) (sym named) ∙ e) refl
fault-of {entries} {chain} {name} {names} (cycle {name = n} {found = found} e on) p =
    let named : n ≡ name = cc in
    is_cycle found (ap (λ x. found_from 0 x entries) (sym named) ∙ e) on refl
fault-of {entries} {chain} {name} {names} (below {name = n} {found = found} e off is) p =
    let named : n ≡ name = cc in
    is_below found (ap (λ x. found_from 0 x entries) (sym named) ∙ e) off is
fault-of {entries} {chain} {name} {names} {fault = fault} (later {name = n} {names = ms} {d = d} resolved is) p =
    let named : n ≡ name = cc in
    let further : ms ≡ names = cc in
    is_later d (subst (λ x. Resolved entries x d) named resolved) (subst (λ x. Fault entries chain x fault) further is)

-- the first of resolved names
found-first : {entries : List Described} {name : List ℕ} {d : Description} → Resolved entries name d → (found : ℕ × Described) × (n : ℕ) × (found_from 0 name entries ≡ Some found) × Sized entries n found.1.uses
found-first r =
    let head = first-of r refl in
    let size = sized head.uses in
    (head.found, size.0, head.finds, size.1)

resolved-unknown : {entries : List Described} {name : List ℕ} {d : Description} → Resolved entries name d → found_from 0 name entries ≡ None → ⊥
resolved-unknown r e = let head = found-first r in cc (e, head.2)

resolved-open : {entries : List Described} {name : List ℕ} {d : Description} → (chain : List ℕ) (found : ℕ × Described) → Open entries chain → Resolved entries name d → found_from 0 name entries ≡ Some found → on_chain chain found.0 → ⊥
resolved-open {entries} {name} chain found still r e on =
    let head = found-first r in
    let same : head.0 ≡ found = same-found head.2 e in
    still found.0 on found.1 (there entries name found e) head.1 (subst (λ (f : ℕ × Described). Sized entries head.1 f.1.uses) same head.3)

resolved-below : {entries : List Described} {name : List ℕ} {d : Description} {fault : SourceFault} → (chain : List ℕ) (found : ℕ × Described) → Open entries chain → Resolved entries name d → found_from 0 name entries ≡ Some found → Fault entries (found.0 ∷ chain) found.1.uses fault → ⊥
resolved-below {entries} {name} {fault = fault} chain found still r e is =
    let head = found-first r in
    let same : head.0 ≡ found = same-found head.2 e in
    let opened = open-more entries chain found fault (there entries name found e) is still in
    let first : (eqb found.0 found.0 || list_any (λ j. eqb j found.0) chain) ≡ true = rw (self found.0) refl in
    opened found.0 first found.1 (there entries name found e) head.1 (subst (λ (f : ℕ × Described). Sized entries head.1 f.1.uses) same head.3)
  where
    self : (i : ℕ) → eqb i i ≡ true
    self i = eq-eqb i i refl

fault-once : {entries : List Described} {chain : List ℕ} {names : List (List ℕ)} {f g : SourceFault} → Open entries chain → Fault entries chain names f → Fault entries chain names g → f ≡ g
fault-once still (unknown e) other =
    elim (fault-of other refl) [
      | is_unknown e2 is ↦ sym is
      | is_cycle found e2 on is ↦ cc
      | is_below found e2 off is ↦ cc
      | is_later d r is ↦ absurd (resolved-unknown r e)
    ]
fault-once {chain = chain} still (cycle {found = x} e on) other =
    elim (fault-of other refl) [
      | is_unknown e2 is ↦ cc
      | is_cycle found e2 on2 is ↦ sym is
      | is_below found e2 off is ↦ let same : found ≡ x = same-found e2 e in let also : list_any (λ j. eqb j x.0) chain ≡ false = ap (λ (f : ℕ × Described). list_any (λ j. eqb j f.0) chain) (sym same) ∙ off in cc
      | is_later d r is ↦ absurd (resolved-open chain x still r e on)
    ]
fault-once {entries} {chain} {g = g} still (below {name = name} {found = x} {fault = f} e off is) other =
    elim (fault-of other refl) [
      | is_unknown e2 is2 ↦ cc
      | is_cycle found e2 on is2 ↦ let same : found ≡ x = same-found e2 e in let also : list_any (λ j. eqb j x.0) chain ≡ true = ap (λ (f : ℕ × Described). list_any (λ j. eqb j f.0) chain) (sym same) ∙ on in cc
      | is_below found e2 off2 is2 ↦
          let same : found ≡ x = same-found e2 e in
          fault-once (open-more entries chain x f (there entries name x e) is still) is (subst (λ (y : ℕ × Described). Fault entries (y.0 ∷ chain) y.1.uses g) same is2)
      | is_later d r is2 ↦ absurd (resolved-below chain x still r e is)
    ]
fault-once {chain = chain} still (later resolved is) other =
    elim (fault-of other refl) [
      | is_unknown e2 is2 ↦ absurd (resolved-unknown resolved e2)
      | is_cycle found e2 on is2 ↦ absurd (resolved-open chain found still resolved e2 on)
      | is_below found e2 off is2 ↦ absurd (resolved-below chain found still resolved e2 is2)
      | is_later d r is2 ↦ fault-once still is is2
    ]

pub fault-is-once : FaultOnce
fault-is-once entries names f g p q = fault-once (λ i on d at m uses. cc) p q

pub resolve-or-fault : ResolveOrFault
resolve-or-fault entries names ds fault r f =
    let size = sized r in
    not-both size.0 f size.1 (λ i on d at m uses. cc)

-- the fault of a place is that of each name that has it
pub err-at : {A : Type 0} → (entries : List Described) (name : List ℕ) (index : Option ℕ) (r : Result A SourceFault) → index_of entries name ≡ index → IfErr r (λ f. Stops f (FaultAt entries [] index f)) → IfErr r (λ f. Stops f (Unresolved entries name f))
err-at entries name index (Ok a) at h = h
err-at entries name index (Err f) at (inl e) = inl e
err-at entries name index (Err f) at (inr h) = inr (h name at)

-- the answer for a name that resolves
pub good-answer : {A : Type 0} → (entries : List Described) (name : List ℕ) (r : Result A SourceFault) → IfErr r (λ f. Stops f (Unresolved entries name f)) → (d : Description) → Resolved entries name d → IsOkUnless r NoMemory
good-answer entries name (Ok a) h d one = tt
good-answer entries name (Err f) (inl e) d one = e
good-answer entries name (Err f) (inr fault) d one = absurd (resolve-or-fault entries (name ∷ []) (d ∷ []) f one fault)
