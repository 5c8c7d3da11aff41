-- How a line is cut into fields (terminfo(5), "Preparing Descriptions"): at each comma that no byte before it takes.
use Rattle.std.specs.Prelude.{◌≡◌, ◌≢◌, ◌↔◌, ℕ, true, false, List, [], ◌∷◌, ◌++◌}
use Rattle.ti_source.specs.Reading.Field.{takes_next, fields}

-- A field: bytes that are no comma, and pairs of `\` or `^` with the byte that follows.
pub data IsField : List ℕ → Type 0 where
  nothing : IsField []
  byte : {b : ℕ} {bytes : List ℕ} → takes_next b ≡ false → b ≢ 44 → IsField bytes → IsField (b ∷ bytes)
  pair : {a b : ℕ} {bytes : List ℕ} → takes_next a ≡ true → IsField bytes → IsField (a ∷ b ∷ bytes)

-- A line and its fields: a field, a comma, and the fields of what follows; or the last field, which may end in a `\` or
-- `^` that takes nothing.
pub data AreFields : List ℕ → List (List ℕ) → Type 0 where
  more : {field rest : List ℕ} {others : List (List ℕ)} → IsField field → AreFields rest others → AreFields (field ++ 44 ∷ rest) (field ∷ others)
  last : {field : List ℕ} → IsField field → AreFields field (field ∷ [])
  cut : {field : List ℕ} (a : ℕ) → IsField field → takes_next a ≡ true → AreFields (field ++ a ∷ []) ((field ++ a ∷ []) ∷ [])

-- The fields that are read are those of the line, and no others.
abbrev pub AreCut : Type 0
AreCut = (bytes : List ℕ) (parts : List (List ℕ)) → AreFields bytes parts ↔ (parts ≡ fields bytes)
