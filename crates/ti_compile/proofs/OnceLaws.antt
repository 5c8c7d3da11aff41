-- A source is compiled to one thing, has one fault, and not both.
use Rattle.std.proofs.Common.{◌≡◌, ◌∙◌, ◌⊎◌, ℕ, Bool, true, false, ◌&&◌, List, [], ◌∷◌, ◌++◌, Some, Ok, Err, map, inl, inr, refl, sym, ap, subst}
use Rattle.std.specs.Prelude.{is_none, IfErr, IsOkUnless, Result}
use Rattle.std.specs.List.{list_all, flat_map}
use Rattle.ti_caps.specs.Description.{Description}
use Rattle.ti_source.specs.Described.{Described}
use Rattle.ti_source.specs.Resolving.Uses.{Resolve, nothing, more, Resolved, ResolveOnce, FaultOnce, ResolveOrFault}
use Rattle.ti_compile.specs.declared.compiler.Compiled.{Compiled}
use Rattle.ti_compile.specs.declared.faults.TicFault.{TicFault}
use Rattle.ti_compile.specs.declared.faults.TicFault.TheVariants.{Source, NoMemory}
use Rattle.ti_compile.specs.Compiling.{CanBeCompiled, IsFaulty, IsFirstRefused, Refused, files_of, names_of, refusal_of, size_of}
use Rattle.ti_compile.specs.Once.{CompileOnce, FaultyOnce, CompiledOrFaulty}

abbrev is_good : Description → Bool
is_good d = is_none (refusal_of d)

head-is : {A : Type 0} {x y : A} {xs ys : List A} → x ∷ xs ≡ y ∷ ys → x ≡ y
head-is p = cc

tail-is : {A : Type 0} {x y : A} {xs ys : List A} → x ∷ xs ≡ y ∷ ys → xs ≡ ys
tail-is p = cc

both-true : (a b : Bool) → (a && b) ≡ true → (a ≡ true) × (b ≡ true)
both-true true b h = (refl, h)
both-true false b h = cc

-- one among names that are compiled resolves to a description that is not refused
record Among (entries : List Described) (name : List ℕ) : Type 0 where
  d : Description
  resolved : Resolved entries name d
  good : is_good d ≡ true

among : (entries : List Described) (before : List (List ℕ)) (name : List ℕ) (after names : List (List ℕ)) (ds : List Description) → Resolve entries names ds → list_all is_good ds ≡ true → names ≡ before ++ name ∷ after → Among entries name
among entries [] name after names ds nothing good is = cc
among entries (b ∷ before) name after names ds nothing good is = cc
among entries [] name after names ds (more {name = n} {ds = es} {d = d} finds uses merges rest) good is =
    let named : n ≡ name = head-is is in
    record { d = d; resolved = subst (λ x. Resolved entries x d) named (more finds uses merges nothing); good = (both-true (is_good d) (list_all is_good es) good).0 }
among entries (b ∷ before) name after names ds (more {names = ms} {ds = es} {d = d} finds uses merges rest) good is =
    among entries before name after ms es rest (both-true (is_good d) (list_all is_good es) good).1 (tail-is is)

-- such a name is not refused
not-both : ResolveOnce → ResolveOrFault → (entries : List Described) (name : List ℕ) (fault : TicFault) → Among entries name → Refused entries name fault → ⊥
not-both once either entries name fault a (inl (f, un, is)) = either entries (name ∷ []) (a.d ∷ []) f a.resolved un
not-both once either entries name fault a (inr (d, r, is)) =
    let same : a.d ≡ d = head-is (once entries (name ∷ []) (a.d ∷ []) (d ∷ []) a.resolved r) in
    let none : is_good d ≡ true = subst (λ x. is_good x ≡ true) same a.good in
    let some : is_good d ≡ false = ap is_none is in
    cc

-- a name has one fault
refused-once : ResolveOnce → FaultOnce → ResolveOrFault → (entries : List Described) (name : List ℕ) (f g : TicFault) → Refused entries name f → Refused entries name g → f ≡ g
refused-once once least either entries name f g (inl (a, un, is)) (inl (b, vn, js)) = is ∙ ap Source (least entries (name ∷ []) a b un vn) ∙ sym js
refused-once once least either entries name f g (inl (a, un, is)) (inr (d, r, js)) = absurd (either entries (name ∷ []) (d ∷ []) a r un)
refused-once once least either entries name f g (inr (d, r, is)) (inl (b, vn, js)) = absurd (either entries (name ∷ []) (d ∷ []) b r vn)
refused-once once least either entries name f g (inr (d, r, is)) (inr (e, q, js)) =
    let same : d ≡ e = head-is (once entries (name ∷ []) (d ∷ []) (e ∷ []) r q) in
    let both : Some f ≡ Some g = sym is ∙ ap refusal_of same ∙ js in
    cc

-- of two places in a list, one is before the other, or they are the same
data Places (before : List (List ℕ)) (name : List ℕ) (others : List (List ℕ)) (other : List ℕ) : Type 0 where
  same : name ≡ other → Places before name others other
  first : (middle : List (List ℕ)) → others ≡ before ++ name ∷ middle → Places before name others other
  second : (middle : List (List ℕ)) → before ≡ others ++ other ∷ middle → Places before name others other

places-more : (b : List ℕ) (before : List (List ℕ)) (name : List ℕ) (others : List (List ℕ)) (other : List ℕ) → Places before name others other → Places (b ∷ before) name (b ∷ others) other
places-more b before name others other (same is) = same is
places-more b before name others other (first middle is) = first middle (ap (λ xs. b ∷ xs) is)
places-more b before name others other (second middle is) = second middle (ap (λ xs. b ∷ xs) is)

places : (before : List (List ℕ)) (name : List ℕ) (after others : List (List ℕ)) (other : List ℕ) (behind : List (List ℕ)) → before ++ name ∷ after ≡ others ++ other ∷ behind → Places before name others other
places [] name after [] other behind is = same (head-is is)
places [] name after (o ∷ others) other behind is = first others (ap (λ x. x ∷ others) (sym (head-is is)))
places (b ∷ before) name after [] other behind is = second before (ap (λ x. x ∷ before) (head-is is))
places (b ∷ before) name after (o ∷ others) other behind is =
    subst (λ x. Places (b ∷ before) name (x ∷ others) other) (head-is is) (places-more b before name others other (places before name after others other behind (tail-is is)))

-- the first that is refused has one fault
first-once : ResolveOnce → FaultOnce → ResolveOrFault → (entries : List Described) (names : List (List ℕ)) (f g : TicFault) → IsFirstRefused entries names f → IsFirstRefused entries names g → f ≡ g
first-once once least either entries names f g p q = by (places p.before p.name p.after q.before q.name q.after (sym p.split ∙ q.split))
  where
    by : Places p.before p.name q.before q.name → f ≡ g
    by (same is) = refused-once once least either entries q.name f g (subst (λ x. Refused entries x f) is p.refused) q.refused
    by (first middle is) = absurd (not-both once either entries p.name f (among entries p.before p.name middle q.before q.ds q.compiled.resolved q.compiled.good is) p.refused)
    by (second middle is) = absurd (not-both once either entries q.name g (among entries q.before q.name middle p.before p.ds p.compiled.resolved p.compiled.good is) q.refused)

ok-is : {A B : Type 0} {x y : A} → ◌≡◌ {A = Result A B} (Ok x) (Ok y) → x ≡ y
ok-is p = cc

err-is : {A B : Type 0} {x y : B} → ◌≡◌ {A = Result A B} (Err x) (Err y) → x ≡ y
err-is p = cc

not-ok : {A B : Type 0} {x : A} {y : B} → ◌≡◌ {A = Result A B} (Ok x) (Err y) → ⊥
not-ok p = cc

pub compile-once : ResolveOnce → CompileOnce
compile-once once text c d (s, read, (ds, are, is)) (t, again, (es, ares, js)) =
    let source : s ≡ t = ok-is (sym read ∙ again) in
    let same : ds ≡ es = once t.entries (names_of t.entries) ds es (subst (λ w. Resolve w.entries (names_of w.entries) ds) source are.resolved) ares.resolved in
    is ∙ ap (λ xs. record { files = flat_map files_of xs; sizes = map size_of xs; notes = s.notes }) same
    ∙ ap (λ w. record { files = flat_map files_of es; sizes = map size_of es; notes = w.notes }) source ∙ sym js

pub faulty-once : ResolveOnce → FaultOnce → ResolveOrFault → FaultyOnce
faulty-once once least either text f g (inl (a, read, is)) (inl (b, again, js)) = is ∙ ap Source (err-is (sym read ∙ again)) ∙ sym js
faulty-once once least either text f g (inl (a, read, is)) (inr (t, again, q)) = absurd (not-ok (sym again ∙ read))
faulty-once once least either text f g (inr (s, read, p)) (inl (b, again, js)) = absurd (not-ok (sym read ∙ again))
faulty-once once least either text f g (inr (s, read, p)) (inr (t, again, q)) =
    let source : s ≡ t = ok-is (sym read ∙ again) in
    first-once once least either t.entries (names_of t.entries) f g (subst (λ w. IsFirstRefused w.entries (names_of w.entries) f) source p) q

pub compiled-or-faulty : ResolveOnce → ResolveOrFault → CompiledOrFaulty
compiled-or-faulty once either text c fault (s, read, (ds, are, is)) (inl (b, again, js)) = not-ok (sym read ∙ again)
compiled-or-faulty once either text c fault (s, read, (ds, are, is)) (inr (t, again, q)) =
    let source : t ≡ s = ok-is (sym again ∙ read) in
    let p = subst (λ w. IsFirstRefused w.entries (names_of w.entries) fault) source q in
    not-both once either s.entries p.name fault (among s.entries p.before p.name p.after (names_of s.entries) ds are.resolved are.good p.split) p.refused

-- an answer for a source that can be compiled, whose faults are faults of the source
pub good-answer : CompiledOrFaulty → (text : List ℕ) (r : Result Compiled TicFault) → IfErr r (λ f. (f ≡ NoMemory) ⊎ IsFaulty text f) → CanBeCompiled text → IsOkUnless r NoMemory
good-answer not-faulty text (Ok x) err can = tt
good-answer not-faulty text (Err f) (inl none) can = none
good-answer not-faulty text (Err f) (inr is) can = absurd (not-faulty text can.0 f can.1 is)
