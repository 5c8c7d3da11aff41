-- No name stands twice in the capability table: computed name by name, and lifted to every position.
use Rattle.std.proofs.Common.{◌≡◌, ◌∙◌, ℕ, zero, suc, ◌+◌, ◌-◌, ◌≤◌, Bool, true, false, ◌&&◌, List, [], ◌∷◌, Option, Some, None, option_map, slice_get, cond, eqb, leb, refl, sym, ap, arith, add-zero, ◌⊎◌, inl, inr}
use Rattle.std.specs.Str.{bytes_eq}
use Rattle.std.proofs.lemmas.Slice.Eq.{bytes_eq-Decides}
use Rattle.std.proofs.lemmas.Bool.Decides.{nat_tests}
use Rattle.ti_caps.specs.declared.table.Kind.{Kind}
use Rattle.ti_caps.specs.declared.table.Kind.TheVariants.{Flag, Number, Text}
use Rattle.ti_caps.specs.Slots.{is_name}
use Rattle.ti_caps.specs.Standard.{flag_names_from_37, number_names_from_33, text_names_from_186, text_names_from_270, text_names_from_298, text_names_from_361, other_runs, standard_capability_of, standard_name_at, standard_runs}
use Rattle.ti_caps.specs.Table.{Names, runs, flag_names, number_names, text_names_from_0, text_names_from_55, text_names_from_90, text_names_from_139, text_names_from_158, text_names_from_216, text_names_from_297, text_names_from_359, same_kind, or_else, name_in, name_among, name_at, position_from, position_in, found_among, capability_of}

abbrev is_capability : Kind → ℕ → Option (Kind × ℕ) → Bool
is_capability kind i None = false
is_capability kind i (Some p) = same_kind p.0 kind && eqb p.1 i

-- these names, the first at position i, are found there and read there
abbrev pub all_once : List Names → Kind → ℕ → List (List ℕ) → Bool
all_once all kind i [] = true
all_once all kind i (n ∷ ns) = is_capability kind i (found_among n all) && (is_name n (name_among kind i all) && all_once all kind (suc i) ns)

-- the same of these runs, among all
abbrev pub runs_once : List Names → List Names → Bool
runs_once all [] = true
runs_once all (r ∷ rs) = all_once all r.kind r.first r.names && runs_once all rs

pub computed : runs_once runs runs ≡ true
unfolding runs flag_names number_names text_names_from_0 text_names_from_55 text_names_from_90 text_names_from_139 text_names_from_158 text_names_from_216 text_names_from_297 text_names_from_359
computed = refl

pub both : (a b : Bool) → (a && b) ≡ true → (a ≡ true) × (b ≡ true)
both true b e = (refl, e)
both false b e = cc

pub chosen : {A : Type 0} → (b : Bool) (x y z : A) → cond b x y ≡ z → ((b ≡ true) × (x ≡ z)) ⊎ ((b ≡ false) × (y ≡ z))
chosen true x y z e = inl (refl, e)
chosen false x y z e = inr (refl, e)

guarded : {A : Type 0} → (b : Bool) (o : Option A) (x : A) → cond b o None ≡ Some x → (b ≡ true) × (o ≡ Some x)
guarded true o x e = (refl, e)
guarded false o x e = cc

pub first_there : {A : Type 0} → (o p : Option A) (x : A) → or_else o p ≡ Some x → (o ≡ Some x) ⊎ ((o ≡ None) × (p ≡ Some x))
first_there None p x e = inr (refl, e)
first_there (Some y) p x e = inl e

pub mapped : {A B : Type 0} → (f : A → B) (o : Option A) (y : B) → option_map f o ≡ Some y → (x : A) × (o ≡ Some x) × (f x ≡ y)
mapped f None y e = cc
mapped f (Some x) y e = let same : f x ≡ y = cc in (x, refl, same)

same_kind-true : (a b : Kind) → same_kind a b ≡ true → a ≡ b
same_kind-true Flag Flag e = refl
same_kind-true Number Number e = refl
same_kind-true Text Text e = refl
same_kind-true Flag Number e = cc
same_kind-true Flag Text e = cc
same_kind-true Number Flag e = cc
same_kind-true Number Text e = cc
same_kind-true Text Flag e = cc
same_kind-true Text Number e = cc

is_capability-true : (kind : Kind) (i : ℕ) (o : Option (Kind × ℕ)) → is_capability kind i o ≡ true → o ≡ Some (kind, i)
is_capability-true kind i None e = cc
is_capability-true kind i (Some (k, j)) e =
    let parts = both (same_kind k kind) (eqb j i) e in
    let kinds = same_kind-true k kind parts.0 in
    let places : j ≡ i = grind (arith, nat_tests) in
    rw (kinds, places) refl

is_name-true : (name : List ℕ) (o : Option (List ℕ)) → is_name name o ≡ true → o ≡ Some name
is_name-true name None e = cc
is_name-true name (Some n) e = ap Some ((bytes_eq-Decides n name).0 e)

-- what the computation says of the first name and of the rest
record HeadOnce (all : List Names) (kind : Kind) (i : ℕ) (n : List ℕ) (ns : List (List ℕ)) : Type 0 where
  found : found_among n all ≡ Some (kind, i)
  named : name_among kind i all ≡ Some n
  rest : all_once all kind (suc i) ns ≡ true

head_once : (all : List Names) (kind : Kind) (i : ℕ) (n : List ℕ) (ns : List (List ℕ)) → all_once all kind i (n ∷ ns) ≡ true → HeadOnce all kind i n ns
head_once all kind i n ns e =
    let one = both (is_capability kind i (found_among n all)) (is_name n (name_among kind i all) && all_once all kind (suc i) ns) e in
    let two = both (is_name n (name_among kind i all)) (all_once all kind (suc i) ns) one.1 in
    record { found = is_capability-true kind i (found_among n all) one.0; named = is_name-true n (name_among kind i all) two.0; rest = two.1 }

pub once_found : (all : List Names) (kind : Kind) (i j : ℕ) (ns : List (List ℕ)) (n : List ℕ) → all_once all kind i ns ≡ true → slice_get ns j ≡ Some n → found_among n all ≡ Some (kind, i + j)
once_found all kind i j [] n e at = cc
once_found all kind i zero (m ∷ ns) n e at =
    let same : n ≡ m = cc in rw (add-zero, same) (head_once all kind i m ns e).found
once_found all kind i (suc j) (m ∷ ns) n e at =
    let steps : i + suc j ≡ suc i + j = omega arith in
    rw steps (once_found all kind (suc i) j ns n (head_once all kind i m ns e).rest at)

once_named : (all : List Names) (kind : Kind) (i p : ℕ) (ns : List (List ℕ)) (name : List ℕ) → all_once all kind i ns ≡ true → position_from i name ns ≡ Some p → name_among kind p all ≡ Some name
once_named all kind i p [] name e at = cc
once_named all kind i p (m ∷ ns) name e at =
    elim (chosen (bytes_eq m name) (Some i) (position_from (suc i) name ns) (Some p) at) [
      | inl h ↦
          let same : name ≡ m = sym ((bytes_eq-Decides m name).0 h.0) in
          let here : p ≡ i = cc in
          rw (here, same) (head_once all kind i m ns e).named
      | inr h ↦ once_named all kind (suc i) p ns name (head_once all kind i m ns e).rest h.1
    ]

named_found : (all : List Names) (kind : Kind) (position : ℕ) (rs : List Names) (n : List ℕ) → runs_once all rs ≡ true → name_among kind position rs ≡ Some n → found_among n all ≡ Some (kind, position)
named_found all kind position [] n e at = cc
named_found all kind position (r ∷ rs) n e at =
    let parts = both (all_once all r.kind r.first r.names) (runs_once all rs) e in
    elim (first_there (name_in kind position r) (name_among kind position rs) n at) [
      | inl h ↦
          let g = guarded (same_kind r.kind kind && leb r.first position) (slice_get r.names (position - r.first)) n h in
          let fits = both (same_kind r.kind kind) (leb r.first position) g.0 in
          let kinds = same_kind-true r.kind kind fits.0 in
          let low : r.first ≤ position = grind (arith, nat_tests) in
          let there : r.first + (position - r.first) ≡ position = omega arith in
          let found = once_found all r.kind r.first (position - r.first) r.names n parts.0 g.1 in
          found ∙ ap (λ k. Some (k, r.first + (position - r.first))) kinds ∙ ap (λ p. Some (kind, p)) there
      | inr h ↦ named_found all kind position rs n parts.1 h.1
    ]

found_named : (all : List Names) (name : List ℕ) (rs : List Names) (kind : Kind) (position : ℕ) → runs_once all rs ≡ true → found_among name rs ≡ Some (kind, position) → name_among kind position all ≡ Some name
found_named all name [] kind position e at = cc
found_named all name (r ∷ rs) kind position e at =
    let parts = both (all_once all r.kind r.first r.names) (runs_once all rs) e in
    elim (first_there (position_in name r) (found_among name rs) (kind, position) at) [
      | inl h ↦
          let m = mapped (λ p. (r.kind, p)) (position_from r.first name r.names) (kind, position) h in
          let kinds : kind ≡ r.kind = ap (λ p. p.0) (sym m.2) in
          let places : position ≡ m.0 = ap (λ p. p.1) (sym m.2) in
          rw (kinds, places) (once_named all r.kind r.first m.0 r.names name parts.0 m.1)
      | inr h ↦ found_named all name rs kind position parts.1 h.1
    ]

pub name_is_found : (kind : Kind) (position : ℕ) (name : List ℕ) → name_at kind position ≡ Some name → capability_of name ≡ Some (kind, position)
unfolding name_at capability_of
name_is_found kind position name at = named_found runs kind position runs name computed at

pub found_is_named : (kind : Kind) (position : ℕ) (name : List ℕ) → capability_of name ≡ Some (kind, position) → name_at kind position ≡ Some name
unfolding capability_of name_at
found_is_named kind position name at = found_named runs name runs kind position computed at

-- the same for the names of term.h
computed_standard : runs_once standard_runs standard_runs ≡ true
unfolding runs flag_names number_names text_names_from_0 text_names_from_55 text_names_from_90 text_names_from_139 text_names_from_158 text_names_from_216 text_names_from_297 text_names_from_359 other_runs standard_runs flag_names_from_37 number_names_from_33 text_names_from_186 text_names_from_270 text_names_from_298 text_names_from_361
computed_standard = refl

pub standard_name_is_found : (kind : Kind) (position : ℕ) (name : List ℕ) → standard_name_at kind position ≡ Some name → standard_capability_of name ≡ Some (kind, position)
unfolding standard_name_at standard_capability_of
standard_name_is_found kind position name at = named_found standard_runs kind position standard_runs name computed_standard at

pub found_is_named_standard : (kind : Kind) (position : ℕ) (name : List ℕ) → standard_capability_of name ≡ Some (kind, position) → standard_name_at kind position ≡ Some name
unfolding standard_name_at standard_capability_of
found_is_named_standard kind position name at = found_named standard_runs name standard_runs kind position computed_standard at
