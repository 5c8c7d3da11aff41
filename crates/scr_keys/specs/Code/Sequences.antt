-- What bytes are, all but the last of which begin a sequence of UTF-8.
use Rattle.std.specs.Prelude.{ℕ, ◌≡◌, ◌≢◌, List, [], ◌∷◌, ◌++◌, encode_utf8}
use Rattle.scr_keys.specs.declared.sequences.Sequence.{Sequence}
use Rattle.scr_keys.specs.declared.sequences.Sequence.TheVariants.{Begun, Broken, Whole}
use Rattle.scr_keys.specs.Typing.{IsBegun, IsMultibyte}

-- one byte more than begins a sequence
pub record IsNext (bytes : List ℕ) : Type 0 where
  pub before : List ℕ
  pub byte : ℕ
  pub waits : IsBegun before
  pub bytes_are : bytes ≡ before ++ byte ∷ []

-- no sequence begins with these bytes, nor do they begin with one
abbrev pub BeginNone : List ℕ → Type 0
BeginNone bytes = (character : ℕ) (more rest : List ℕ) → IsMultibyte character → bytes ++ more ≢ encode_utf8 character ++ rest

-- what these bytes are
abbrev pub Means : List ℕ → Sequence → Type 0
Means bytes (Whole character) = IsMultibyte character × (bytes ≡ encode_utf8 character)
Means bytes Begun = IsBegun bytes
Means bytes Broken = BeginNone bytes
