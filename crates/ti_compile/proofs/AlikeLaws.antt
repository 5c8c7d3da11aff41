-- Entries that are alike but for their names.
use Rattle.std.specs.Prelude.{IfErr, IfOk}
use Rattle.std.proofs.Common.{◌≡◌, ◌∙◌, ℕ, List, Result, Ok, Err, subst, sym, ap}
use Rattle.ti_binary.specs.Canonical.{renamed}
use Rattle.ti_caps.specs.Description.{Description}
use Rattle.ti_source.specs.Described.{Described}
use Rattle.ti_source.specs.Resolving.Passing.{IsPassedOn, PassBack, PassOn}
use Rattle.ti_source.specs.Resolving.Uses.{Resolved}
use Rattle.ti_compile.specs.Alike.{IsAlike}

-- a name that passes on one that is alike
pub alike-on : PassOn → (entries : List Described) (name own other : List ℕ) (e : Description) → IsPassedOn entries name own other → IsAlike entries other e → IsAlike entries name e
alike-on on entries name own other e p (d, resolved, is) = (renamed d own, on entries name own other d p resolved, ap (λ (x : Description). renamed x own) is)

-- a name that one passes on that is alike
pub alike-back : PassBack → (entries : List Described) (name own other : List ℕ) (e : Description) → IsPassedOn entries name own other → IsAlike entries name e → IsAlike entries other e
alike-back back entries name own other e p (d, resolved, is) =
    let b = back entries name own other d p resolved in
    let same : b.0 ≡ renamed e b.0.names = ap (λ (x : Description). renamed x b.0.names) (sym b.2 ∙ is) in
    (b.0, b.1, same)

-- what a name that passes on another resolves to, where it is alike
pub alike-resolved : PassBack → (entries : List Described) (name own other : List ℕ) (e : Description) → IsPassedOn entries name own other → IsAlike entries name e → Resolved entries name (renamed e own)
alike-resolved back entries name own other e p (d, resolved, is) =
    let b = back entries name own other d p resolved in
    let named : d.names ≡ own = ap (λ (x : Description). x.names) b.2 in
    subst (λ x. Resolved entries name x) (is ∙ ap (renamed e) named) resolved

pub alike-at : (entries : List Described) (name same : List ℕ) (e : Description) → name ≡ same → IsAlike entries name e → IsAlike entries same e
alike-at entries name same e is alike = subst (λ n. IsAlike entries n e) is alike

-- answers of which more is known
pub ok-more : {A B : Type 0} (r : Result A B) (P Q : A → Type 0) → IfOk r P → ((x : A) → P x → Q x) → IfOk r Q
ok-more (Ok x) P Q h more = more x h
ok-more (Err e) P Q h more = h

pub err-more : {A B : Type 0} (r : Result A B) (P Q : B → Type 0) → IfErr r P → ((x : B) → P x → Q x) → IfErr r Q
err-more (Ok x) P Q h more = h
err-more (Err e) P Q h more = more e h
