-- The bytes of the names of the capability table, computed.
use Rattle.std.proofs.Common.{◌≡◌, ℕ, zero, suc, ◌-◌, Bool, true, false, not, ◌&&◌, ◌||◌, eqb, leb, cond, List, [], ◌∷◌, Option, Some, None, slice_get, refl, ◌⊎◌, inl, inr}
use Rattle.std.specs.List.{list_all}
use Rattle.std.specs.Str.{bytes_eq}
use Rattle.ti_caps.specs.declared.table.Kind.{Kind}
use Rattle.ti_caps.specs.Table.{Names, runs, flag_names, number_names, text_names_from_0, text_names_from_55, text_names_from_90, text_names_from_139, text_names_from_158, text_names_from_216, text_names_from_297, text_names_from_359, same_kind, or_else, name_in, name_among, name_at}
use Rattle.ti_source.specs.Reading.Field.{ends_name, takes_next}

-- a graphic byte of ASCII, no blank
abbrev pub is_graphic : ℕ → Bool
is_graphic b = leb 33 b && leb b 126

-- one that is itself in a field, and in its name
abbrev pub is_letter : ℕ → Bool
is_letter b = is_graphic b && not (ends_name b || (takes_next b || eqb b 44))

abbrev pub begins_letter : List ℕ → Bool
begins_letter [] = false
begins_letter (b ∷ bs) = not (eqb b 46)

-- a name that can be written in a field
abbrev pub is_written : List ℕ → Bool
is_written name = begins_letter name && (list_all is_letter name && not (bytes_eq name (117 ∷ 115 ∷ 101 ∷ [])))

abbrev all_written : List Names → Bool
all_written [] = true
all_written (r ∷ rs) = list_all is_written r.names && all_written rs

computed : all_written runs ≡ true
unfolding runs flag_names number_names text_names_from_0 text_names_from_55 text_names_from_90 text_names_from_139 text_names_from_158 text_names_from_216 text_names_from_297 text_names_from_359
computed = refl

pub both : (a b : Bool) → (a && b) ≡ true → (a ≡ true) × (b ≡ true)
both true b e = (refl, e)
both false b e = cc

at-index : (p : List ℕ → Bool) (ns : List (List ℕ)) (j : ℕ) (n : List ℕ) → list_all p ns ≡ true → slice_get ns j ≡ Some n → p n ≡ true
at-index p [] j n e at = cc
at-index p (m ∷ ns) zero n e at = let same : n ≡ m = cc in rw same (both (p m) (list_all p ns) e).0
at-index p (m ∷ ns) (suc j) n e at = at-index p ns j n (both (p m) (list_all p ns) e).1 at

guarded : {A : Type 0} → (b : Bool) (o : Option A) (x : A) → cond b o None ≡ Some x → o ≡ Some x
guarded true o x e = e
guarded false o x e = cc

first_there : {A : Type 0} → (o p : Option A) (x : A) → or_else o p ≡ Some x → (o ≡ Some x) ⊎ (p ≡ Some x)
first_there None p x e = inr e
first_there (Some y) p x e = inl e

among : (kind : Kind) (position : ℕ) (rs : List Names) (n : List ℕ) → all_written rs ≡ true → name_among kind position rs ≡ Some n → is_written n ≡ true
among kind position [] n e at = cc
among kind position (r ∷ rs) n e at =
    let parts = both (list_all is_written r.names) (all_written rs) e in
    elim (first_there (name_in kind position r) (name_among kind position rs) n at) [
      | inl h ↦ at-index is_written r.names (position - r.first) n parts.0 (guarded (same_kind r.kind kind && leb r.first position) (slice_get r.names (position - r.first)) n h)
      | inr h ↦ among kind position rs n parts.1 h
    ]

-- a name of the table can be written in a field
pub name-is-written : (kind : Kind) (position : ℕ) (name : List ℕ) → name_at kind position ≡ Some name → is_written name ≡ true
unfolding name_at
name-is-written kind position name at = among kind position runs name computed at
