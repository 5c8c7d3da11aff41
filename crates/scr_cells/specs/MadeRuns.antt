-- Runs that a function makes, as far as it makes something.
use Rattle.std.specs.Prelude.{List, [], ◌∷◌, Option, Some, None}

-- An element in front of a list; if there is none, the list is empty.
abbrev pub before : {A : Type 0} → Option A → List A → List A
before None xs = []
before (Some x) xs = x ∷ xs

-- What a function makes of each element, up to the first for which it makes nothing.
abbrev pub made_while : {A B : Type 0} → (A → Option B) → List A → List B
made_while f [] = []
made_while f (x ∷ xs) = before (f x) (made_while f xs)
