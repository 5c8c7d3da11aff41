-- The pieces of what an operation sends.
use Rattle.std.specs.Prelude.{ℕ, ℤ, List}
use Rattle.scr_term.specs.declared.operations.capability.Capability.{Capability}

-- A character of ASCII; one above it, spelled in UTF-8; or the text of a capability with its nine parameters.
pub data Piece : Type 0 where
  Character : (byte : ℕ) → Piece
  Spelled : (code : ℕ) → Piece
  Text : (capability : Capability) (parameters : List ℤ) → Piece
