-- What a walk over the capability table shows.
use Rattle.std.proofs.Common.{◌≡◌, ℕ, zero, suc, List, [], ◌∷◌, Some, None, slice_get, drop, refl}
use Rattle.ti_caps.specs.declared.table.Kind.{Kind}
use Rattle.ti_caps.specs.Table.{Names, runs, or_else, name_in, name_among}

pub past_runs : drop 10 runs ≡ []
unfolding runs
past_runs = refl

pub named-step : (kind : Kind) (at : ℕ) (rs : List Names) (i : ℕ) (r : Names) → Some r ≡ slice_get rs i → name_among kind at (drop i rs) ≡ or_else (name_in kind at r) (name_among kind at (drop (suc i) rs))
named-step kind at [] i r e = cc
named-step kind at (x ∷ xs) zero r e = let same : r ≡ x = cc in rw same refl
named-step kind at (x ∷ xs) (suc i) r e = named-step kind at xs i r e

pub named-end : (kind : Kind) (at : ℕ) (rs : List Names) (i : ℕ) → None ≡ slice_get rs i → name_among kind at (drop i rs) ≡ None
named-end kind at [] zero e = refl
named-end kind at [] (suc i) e = refl
named-end kind at (x ∷ xs) zero e = cc
named-end kind at (x ∷ xs) (suc i) e = named-end kind at xs i e
