-- An entry that uses no other, and a name that has none.
use Rattle.std.specs.Prelude.{is_none}
use Rattle.std.proofs.Common.{None, ◌≡◌, ◌∙◌, ℕ, true, false, eqb, nat_lt, List, [], ◌∷◌, length, Option, Some, is_some, Result, Ok, Err, IfOk, OnOk, is_err, slice_get, slice_index_or, refl, sym, ap, arith}
use Rattle.std.specs.List.{list_any}
use Rattle.std.proofs.lemmas.Bool.{eqb-true, ltb-true}
use Rattle.std.proofs.lemmas.Option.{slice_get-get_or}
use Rattle.ti_caps.specs.Description.{Description}
use Rattle.ti_source.specs.declared.faults.SourceFault.TheVariants.{UnknownName}
use Rattle.ti_source.specs.declared.reading.statement.Statement.{Statement}
use Rattle.ti_source.specs.Described.{Described}
use Rattle.ti_source.specs.Resolving.Named.{has_name, index_of}
use Rattle.ti_source.specs.Resolving.Uses.{merged, nothing, unknown, Resolve, Resolved, StandsAlone, Unresolved}
use Rattle.ti_source.specs.Code.EntryWalk.{of_fields}
use Rattle.ti_source.proofs.NamedLaws.{found-any, found-none}
use Rattle.ti_source.proofs.TaskLaws.{resolved-at}

pub is-empty : {A : Type 0} → (xs : List A) → true ≡ eqb (length xs) 0 → xs ≡ []
is-empty [] e = refl
is-empty (x ∷ xs) e =
    let none : length (x ∷ xs) ≡ 0 = eqb-true (length (x ∷ xs)) 0 (sym e) in
    absurd (omega arith)

pub found-in : (entries held : List Described) (i : ℕ) (d e : Described) → held ≡ entries → nat_lt i (length held) ≡ true → d ≡ slice_index_or held i e → slice_get entries i ≡ Some d
found-in entries held i d e same less is =
    ap (λ es. slice_get es i) (sym same) ∙ slice_get-get_or held i e (ltb-true i (length held) less) ∙ ap Some (sym is)

pub alone-resolves : (entries : List Described) (name : List ℕ) (index : Option ℕ) (d : Described) (used : List Description) → index ≡ index_of entries name → StandsAlone entries index d → used ≡ [] → Resolved entries name (merged d used)
alone-resolves entries name index d used is (i, at, found, none) empty =
    let uses : Resolve entries d.uses used = rw (none, empty) nothing in
    resolved-at entries i d used found uses name (sym is ∙ at)

pub ok-more : {A E : Type 0} → (r : Result A E) (P Q : A → Type 0) → IfOk r P → ((x : A) → P x → Q x) → IfOk r Q
ok-more (Ok x) P Q h more = more x h
ok-more (Err e) P Q h more = h

-- what holds of an answer that is no error
pub on_ok_at : {A E P : Type 0} → (r : Result A E) → is_err r ≡ false → OnOk r P → P
on_ok_at (Ok x) e h = h
on_ok_at (Err x) e h = cc

-- it is what its own fields give
pub alone-merged : (d : Described) (names : List ℕ) (fields : List Statement) → names ≡ d.names → fields ≡ d.statements → merged (of_fields names fields) [] ≡ merged d []
unfolding merged
alone-merged d names fields named own = ap (λ ns. merged (of_fields ns fields) []) named ∙ ap (λ fs. merged (of_fields d.names fs) []) own

-- a name that no entry has
pub no-name : (entries : List Described) (name : List ℕ) (index : Option ℕ) → index ≡ index_of entries name → is_none index ≡ true → Unresolved entries name UnknownName
no-name entries name None is none = unknown (found-none name entries is)
no-name entries name (Some i) is none = cc

-- a name that has a place is a name of an entry
pub has-index : (entries : List Described) (name : List ℕ) (index : Option ℕ) → index ≡ index_of entries name → is_none index ≡ false → list_any (has_name name) entries ≡ false → ⊥
has-index entries name index is some none =
    by index (ap is_some is ∙ found-any 0 name entries ∙ none) some
  where
    by : (p : Option ℕ) → is_some p ≡ false → is_none p ≡ false → ⊥
    by None e h = cc
    by (Some i) e h = cc
