-- The names of term.h: those in the code are those of the table beside it, and none stands twice.
use Rattle.std.proofs.Common.{◌≡◌, ℕ, List, [], ◌∷◌, ◌++◌, Option, Some, None, map, refl, ap, ◌∙◌}
use Rattle.ti_caps.specs.declared.standard.TheConstants.{FLAGS_FROM_37, NUMBERS_FROM_33, TEXTS_FROM_186, TEXTS_FROM_270, TEXTS_FROM_298, TEXTS_FROM_361}
use Rattle.ti_caps.specs.declared.table.Kind.{Kind}
use Rattle.ti_caps.specs.Standard.{flag_names_from_37, number_names_from_33, text_names_from_186, text_names_from_270, text_names_from_298, text_names_from_361, other_runs, standard_name_at, standard_capability_of, standard_runs}
use Rattle.ti_caps.specs.Table.{Names, found_among, name_among, name_at, name_in, or_else, position_in, capability_of, runs}

pub flag_names_from_37-are : map (λ s. s.now) FLAGS_FROM_37 ≡ flag_names_from_37
unfolding flag_names_from_37
flag_names_from_37-are = refl

pub number_names_from_33-are : map (λ s. s.now) NUMBERS_FROM_33 ≡ number_names_from_33
unfolding number_names_from_33
number_names_from_33-are = refl

pub text_names_from_186-are : map (λ s. s.now) TEXTS_FROM_186 ≡ text_names_from_186
unfolding text_names_from_186
text_names_from_186-are = refl

pub text_names_from_270-are : map (λ s. s.now) TEXTS_FROM_270 ≡ text_names_from_270
unfolding text_names_from_270
text_names_from_270-are = refl

pub text_names_from_298-are : map (λ s. s.now) TEXTS_FROM_298 ≡ text_names_from_298
unfolding text_names_from_298
text_names_from_298-are = refl

pub text_names_from_361-are : map (λ s. s.now) TEXTS_FROM_361 ≡ text_names_from_361
unfolding text_names_from_361
text_names_from_361-are = refl

or_else-twice : {A : Type 0} → (a b c : Option A) → or_else a (or_else b c) ≡ or_else (or_else a b) c
or_else-twice None b c = refl
or_else-twice (Some x) b c = refl

-- the first of two lists of runs that has a name or a capability gives it
pub name_among-two : (kind : Kind) (position : ℕ) (xs ys : List Names) → name_among kind position (xs ++ ys) ≡ or_else (name_among kind position xs) (name_among kind position ys)
name_among-two kind position [] ys = refl
name_among-two kind position (x ∷ xs) ys =
    ap (or_else (name_in kind position x)) (name_among-two kind position xs ys)
    ∙ or_else-twice (name_in kind position x) (name_among kind position xs) (name_among kind position ys)

pub found_among-two : (name : List ℕ) (xs ys : List Names) → found_among name (xs ++ ys) ≡ or_else (found_among name xs) (found_among name ys)
found_among-two name [] ys = refl
found_among-two name (x ∷ xs) ys =
    ap (or_else (position_in name x)) (found_among-two name xs ys)
    ∙ or_else-twice (position_in name x) (found_among name xs) (found_among name ys)

-- what the table does not have is looked up beside it
pub name_after : (kind : Kind) (position : ℕ) → standard_name_at kind position ≡ or_else (name_at kind position) (name_among kind position other_runs)
unfolding standard_name_at standard_runs name_at
name_after kind position = name_among-two kind position runs other_runs

pub found_after : (name : List ℕ) → standard_capability_of name ≡ or_else (capability_of name) (found_among name other_runs)
unfolding standard_capability_of standard_runs capability_of
found_after name = found_among-two name runs other_runs

-- a name of the table stands at the same position
pub table_name_stands : (kind : Kind) (position : ℕ) (name : List ℕ) → name_at kind position ≡ Some name → standard_name_at kind position ≡ Some name
table_name_stands kind position name at = name_after kind position ∙ ap (λ o. or_else o (name_among kind position other_runs)) at

pub ruleset standard_names_are = (flag_names_from_37-are, number_names_from_33-are, text_names_from_186-are, text_names_from_270-are, text_names_from_298-are, text_names_from_361-are)
