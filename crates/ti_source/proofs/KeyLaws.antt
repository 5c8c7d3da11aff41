-- The lines of names, one after another.
use Rattle.std.proofs.Common.{◌≡◌, ℕ, true, false, List, [], ◌∷◌, ◌++◌, append_assoc, append-nil}
use Rattle.std.specs.List.{flat_map}
use Rattle.ti_source.specs.Code.Keyed.{begins_entry, line_of_names}

-- a line that begins an entry
pub goes-in : (lines more : List (List ℕ)) (line done all : List ℕ) → lines ≡ line ∷ more → begins_entry line ≡ true → done ++ flat_map line_of_names lines ≡ all → (done ++ line) ++ flat_map line_of_names more ≡ all
goes-in lines more line done all is begins so-far = rw append_assoc (rw (is, begins) at so-far)

-- another line
pub goes-on : (lines more : List (List ℕ)) (line done all : List ℕ) → lines ≡ line ∷ more → begins_entry line ≡ false → done ++ flat_map line_of_names lines ≡ all → done ++ flat_map line_of_names more ≡ all
goes-on lines more line done all is other so-far = rw (is, other) at so-far

pub is-all : (lines : List (List ℕ)) (done all : List ℕ) → lines ≡ [] → done ++ flat_map line_of_names lines ≡ all → done ≡ all
is-all lines done all is so-far = rw (is, append-nil) at so-far
