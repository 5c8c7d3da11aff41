-- Sorted names that differ, as they are looked through.
use Rattle.std.specs.Prelude.{ℕ, ◌&&◌, Bool, true, false, not, List, [], ◌∷◌}
use Rattle.std.specs.Str.{bytes_eq}

-- The first of these names, if there is one, is this.
abbrev pub begins_with : List (List ℕ) → List ℕ → Bool
begins_with [] name = false
begins_with (first ∷ more) name = bytes_eq first name

-- No name is the one before it.
abbrev pub differ_in_turn : List (List ℕ) → Bool
differ_in_turn [] = true
differ_in_turn (name ∷ names) = not (begins_with names name) && differ_in_turn names
