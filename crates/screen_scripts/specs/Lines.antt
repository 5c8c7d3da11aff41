-- The lines of a script.
use Rattle.std.specs.Prelude.{ℕ, ◌==◌, List, [], ◌∷◌}
use Rattle.std.specs.List.{slice_split}

-- what stands after the last line's end is a line of its own, unless it is nothing
abbrev pub without_empty_end : List (List ℕ) → List (List ℕ)
without_empty_end [] = []
without_empty_end ([] ∷ []) = []
without_empty_end (part ∷ parts) = part ∷ without_empty_end parts

-- a line ends at LF or at the end of the script
abbrev pub lines_of : List ℕ → List (List ℕ)
lines_of script = without_empty_end (slice_split (λ b. b == 10) script)
