-- How the code sets capabilities one after another; nobody has to read this.
use Rattle.std.specs.Prelude.{ℕ, ◌<◌, ◌≤◌, Bool, true, List, [], ◌∷◌, Option, Some, map, slice_set, nat_lt, ◌&&◌, not}
use Rattle.ti_caps.specs.declared.table.Slot.{Slot}
use Rattle.ti_caps.specs.Description.{has_nul}

-- A list with these elements set, one after another.
abbrev pub all_set : {A : Type 0} → List A → List (ℕ × A) → List A
all_set elements [] = elements
all_set elements (one ∷ more) = all_set (slice_set elements one.0 one.1) more

-- These flags are set.
abbrev pub flags_set : List Bool → List Slot → List Bool
flags_set elements slots = all_set elements (map (λ s. (s.0, true)) slots)

-- These numbers are set.
abbrev pub numbers_set : List (Option ℕ) → List (Slot × ℕ) → List (Option ℕ)
numbers_set elements numbers = all_set elements (map (λ p. (p.0.0, Some p.1)) numbers)

-- These texts are set.
abbrev pub texts_set : List (Option (List ℕ)) → List (ℕ × List ℕ) → List (Option (List ℕ))
texts_set elements texts = all_set elements (map (λ p. (p.0, Some p.1)) texts)

-- A number that an entry may have, at an existing position.
abbrev pub FitsNumber : Slot × ℕ → Type 0
FitsNumber p = (p.0.0 < 64) × (p.1 ≤ 32767)

-- A text that an entry may have, at an existing position.
abbrev pub fits_text : ℕ × List ℕ → Bool
fits_text p = nat_lt p.0 512 && not (has_nul p.1)
