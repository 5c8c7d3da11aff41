-- Compiling entry by entry.
use Rattle.std.proofs.Common.{◌≡◌, ◌∙◌, ℕ, zero, suc, ◌+◌, List, [], ◌∷◌, ◌++◌, Some, None, slice_get, take, drop, append-nil, refl, sym, ap, subst, add-one}
use Rattle.std.specs.Prelude.{is_none}
use Rattle.std.specs.List.{flat_map}
use Rattle.std.proofs.lemmas.List.{map-append}
use Rattle.std.proofs.lemmas.List.Folds.{list_all-append}
use Rattle.std.proofs.lemmas.Grind.{flat_map-append}
use Rattle.ti_caps.specs.Description.{Description}
use Rattle.ti_source.specs.Described.{Described}
use Rattle.ti_source.specs.Resolving.Uses.{Resolve, Resolved}
use Rattle.ti_compile.specs.declared.faults.TicFault.{TicFault}
use Rattle.ti_compile.specs.declared.compiled_entry.CompiledEntry.{CompiledEntry}
use Rattle.ti_compile.specs.Compiling.{AreCompiled, IsFirstRefused, Refused, files_of, names_of, refusal_of, size_of}
use Rattle.ti_compile.specs.EntryCompiling.{EntryCompiling, IsCompiledNext}
use Rattle.ti_compile.specs.Progress.{with_entry, written_of}

pub take-name : (names : List (List ℕ)) (i : ℕ) (name : List ℕ) → slice_get names i ≡ Some name → take (i + 1) names ≡ take i names ++ name ∷ []
take-name [] i name at = cc
take-name (n ∷ ns) zero name at = let same : n ≡ name = cc in rw same refl
take-name (n ∷ ns) (suc i) name at = rw add-one (ap (λ xs. n ∷ xs) (rw add-one at (take-name ns i name at)))

-- the names before one, it, and those behind
pub split-name : (names : List (List ℕ)) (i : ℕ) (name : List ℕ) → slice_get names i ≡ Some name → names ≡ take i names ++ name ∷ drop (i + 1) names
split-name [] i name at = cc
split-name (n ∷ ns) zero name at = let same : n ≡ name = cc in rw same refl
split-name (n ∷ ns) (suc i) name at = rw add-one (ap (λ xs. n ∷ xs) (rw add-one at (split-name ns i name at)))

-- one more name that resolves
pub resolve-more : {entries : List Described} {names : List (List ℕ)} {ds : List Description} (name : List ℕ) (d : Description) → Resolve entries names ds → Resolved entries name d → Resolve entries (names ++ name ∷ []) (ds ++ d ∷ [])
resolve-more name d Resolve.nothing one = one
resolve-more name d (Resolve.more found uses is rest) one = Resolve.more found uses is (resolve-more name d rest one)

-- what is compiled with one entry more
pub compiled-more : (entries : List Described) (names : List (List ℕ)) (i : ℕ) (name : List ℕ) (ds : List Description) (d : Description) → AreCompiled entries (take i names) ds → slice_get names i ≡ Some name → Resolved entries name d → refusal_of d ≡ None → AreCompiled entries (take (i + 1) names) (ds ++ d ∷ [])
compiled-more entries names i name ds d so_far at one none = record {
  resolved = rw (take-name names i name at) (resolve-more name d so_far.resolved one);
  good = list_all-append (λ x. is_none (refusal_of x)) ds (d ∷ []) ∙ rw (so_far.good, none) refl;
}

pub written-more : (ds : List Description) (d : Description) → with_entry d (written_of ds) ≡ written_of (ds ++ d ∷ [])
written-more ds d = λ i. record {
  files = sym (flat_map-append files_of ds (d ∷ []) ∙ ap (λ fs. flat_map files_of ds ++ fs) (append-nil (files_of d))) i;
  sizes = sym (map-append size_of ds (d ∷ [])) i;
}

pub refused-among : {es entries : List Described} {name : List ℕ} {fault : TicFault} → es ≡ entries → Refused es name fault → Refused entries name fault
refused-among {name = name} {fault = fault} same refused = subst (λ xs. Refused xs name fault) same refused

-- the first entry that is refused
pub refused-at : (entries : List Described) (names : List (List ℕ)) (i : ℕ) (name : List ℕ) (ds : List Description) (fault : TicFault) → AreCompiled entries (take i names) ds → slice_get names i ≡ Some name → Refused entries name fault → IsFirstRefused entries names fault
refused-at entries names i name ds fault so_far at refused = record {
  before = take i names;
  name = name;
  after = drop (i + 1) names;
  split = split-name names i name at;
  ds = ds;
  compiled = so_far;
  refused = refused;
}

-- the same of the model of a compiler
pub refused-seen : {entries : List Described} {next : ℕ} {seen : EntryCompiling} {fault : TicFault} → ◌≡◌ {A = EntryCompiling} (record { entries = entries; next = next }) seen → IsFirstRefused entries (names_of entries) fault → IsFirstRefused seen.entries (names_of seen.entries) fault
refused-seen {fault = fault} is refused = subst (λ (s : EntryCompiling). IsFirstRefused s.entries (names_of s.entries) fault) is refused

pub next-seen : {entries : List Described} {next : ℕ} {seen : EntryCompiling} {compiled : CompiledEntry} → ◌≡◌ {A = EntryCompiling} (record { entries = entries; next = next }) seen → IsCompiledNext entries next compiled → IsCompiledNext seen.entries seen.next compiled
next-seen {compiled = compiled} is one = subst (λ (s : EntryCompiling). IsCompiledNext s.entries s.next compiled) is one
