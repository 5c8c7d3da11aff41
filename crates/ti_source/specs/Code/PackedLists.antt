-- Lists that are kept one after another.
use Rattle.std.specs.Prelude.{◌≡◌, ◌≤◌, ℕ, zero, suc, ◌-◌, List, [], ◌∷◌, take, drop}

-- The lists that end at these places. The first begins at `start`, and each other one where that before it ends.
abbrev pub parts_from : {T : Type 0} → ℕ → List T → List ℕ → List (List T)
parts_from start items [] = []
parts_from start items (end ∷ ends) = take (end - start) (drop start items) ∷ parts_from end items ends

-- The lists end one after another, the last where all end.
abbrev pub AreEnds : ℕ → ℕ → List ℕ → Type 0
AreEnds start all [] = start ≡ all
AreEnds start all (end ∷ ends) = (start ≤ end) × AreEnds end all ends

-- Where the list with this index begins.
abbrev pub start_at : ℕ → ℕ → List ℕ → ℕ
start_at start i [] = start
start_at start zero (end ∷ ends) = start
start_at start (suc i) (end ∷ ends) = start_at end i ends
