-- The buckets have every name of the table, and what is found by them is the capability of the name.
use Rattle.std.proofs.Common.{◌≡◌, ℕ, zero, suc, ◌+◌, Bool, true, false, ◌&&◌, List, [], ◌∷◌, Option, Some, None, is_some, slice_get, refl, sym, ap, inl, inr}
use Rattle.std.specs.Str.{bytes_eq}
use Rattle.std.proofs.lemmas.Slice.Eq.{bytes_eq-Decides}
use Rattle.ti_caps.specs.declared.table.Kind.{Kind}
use Rattle.ti_caps.specs.Buckets.{bucket, bucket_number, if_same, found_in_run, found_at, found_in}
use Rattle.ti_caps.specs.Table.{Names, runs, flag_names, number_names, text_names_from_0, text_names_from_55, text_names_from_90, text_names_from_139, text_names_from_158, text_names_from_216, text_names_from_297, text_names_from_359, position_from, position_in, found_among, capability_of}
use Rattle.ti_caps.proofs.Once.{both, chosen, first_there, mapped, all_once, runs_once, computed, once_found}

abbrev by_bucket : List ℕ → Option (Kind × ℕ)
by_bucket name = found_in name (bucket (bucket_number 0 name))

-- these names are found by their buckets
abbrev all_found : List (List ℕ) → Bool
all_found [] = true
all_found (n ∷ ns) = is_some (by_bucket n) && all_found ns

abbrev runs_found : List Names → Bool
runs_found [] = true
runs_found (r ∷ rs) = all_found r.names && runs_found rs

all_there : runs_found runs ≡ true
unfolding runs bucket flag_names number_names text_names_from_0 text_names_from_55 text_names_from_90 text_names_from_139 text_names_from_158 text_names_from_216 text_names_from_297 text_names_from_359
all_there = refl

same_here : (name : List ℕ) (kind : Kind) (position : ℕ) (o : Option (List ℕ)) (x : Kind × ℕ) → if_same name kind position o ≡ Some x → (o ≡ Some name) × (x ≡ (kind, position))
same_here name kind position None x e = cc
same_here name kind position (Some known) x e =
    elim (chosen (bytes_eq known name) (Some (kind, position)) None (Some x) e) [
      | inl h ↦
          let same : known ≡ name = (bytes_eq-Decides known name).0 h.0 in
          let here : x ≡ (kind, position) = cc in
          (ap Some same, here)
      | inr h ↦ cc
    ]

run_once : (rs : List Names) (i : ℕ) (r : Names) → runs_once runs rs ≡ true → slice_get rs i ≡ Some r → all_once runs r.kind r.first r.names ≡ true
run_once [] i r e at = cc
run_once (s ∷ rs) zero r e at =
    let same : r ≡ s = cc in
    rw same (both (all_once runs s.kind s.first s.names) (runs_once runs rs) e).0
run_once (s ∷ rs) (suc i) r e at = run_once rs i r (both (all_once runs s.kind s.first s.names) (runs_once runs rs) e).1 at

right_in_run : (name : List ℕ) (index : ℕ) (o : Option Names) (x : Kind × ℕ) → ((r : Names) → o ≡ Some r → all_once runs r.kind r.first r.names ≡ true) → found_in_run name index o ≡ Some x → capability_of name ≡ Some x
unfolding capability_of
right_in_run name index None x once e = cc
right_in_run name index (Some r) x once e =
    let h = same_here name r.kind (r.first + index) (slice_get r.names index) x e in
    rw h.1 (once_found runs r.kind r.first index r.names name (once r refl) h.0)

right_in : (name : List ℕ) (addresses : List (ℕ × ℕ)) (x : Kind × ℕ) → found_in name addresses ≡ Some x → capability_of name ≡ Some x
right_in name [] x e = cc
right_in name (address ∷ addresses) x e =
    elim (first_there (found_at name address) (found_in name addresses) x e) [
      | inl h ↦ right_in_run name address.1 (slice_get runs address.0) x (λ r at. run_once runs address.0 r computed at) h
      | inr h ↦ right_in name addresses x h.1
    ]

there : (name : List ℕ) (i p : ℕ) (ns : List (List ℕ)) → all_found ns ≡ true → position_from i name ns ≡ Some p → is_some (by_bucket name) ≡ true
there name i p [] e at = cc
there name i p (n ∷ ns) e at =
    let parts = both (is_some (by_bucket n)) (all_found ns) e in
    elim (chosen (bytes_eq n name) (Some i) (position_from (suc i) name ns) (Some p) at) [
      | inl h ↦ let same : name ≡ n = sym ((bytes_eq-Decides n name).0 h.0) in rw same parts.0
      | inr h ↦ there name (suc i) p ns parts.1 h.1
    ]

there_among : (name : List ℕ) (rs : List Names) (x : Kind × ℕ) → runs_found rs ≡ true → found_among name rs ≡ Some x → is_some (by_bucket name) ≡ true
there_among name [] x e at = cc
there_among name (r ∷ rs) x e at =
    let parts = both (all_found r.names) (runs_found rs) e in
    elim (first_there (position_in name r) (found_among name rs) x at) [
      | inl h ↦
          let m = mapped (λ p. (r.kind, p)) (position_from r.first name r.names) x h in
          there name r.first m.0 r.names parts.0 m.1
      | inr h ↦ there_among name rs x parts.1 h.1
    ]

-- two answers of which the first is right, and there where the second is
agree : {A : Type 0} → (o p : Option A) → ((x : A) → o ≡ Some x → p ≡ Some x) → ((x : A) → p ≡ Some x → is_some o ≡ true) → o ≡ p
agree None None right there = refl
agree None (Some y) right there = let bad : false ≡ true = there y refl in cc
agree (Some x) p right there = sym (right x refl)

pub buckets_find : (name : List ℕ) → found_in name (bucket (bucket_number 0 name)) ≡ capability_of name
unfolding capability_of
buckets_find name =
    agree (by_bucket name) (capability_of name) (λ x e. right_in name (bucket (bucket_number 0 name)) x e) (λ x e. there_among name runs x all_there e)
