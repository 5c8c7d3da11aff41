-- What is typed: characters, from the bytes of their encoding in UTF-8, beside keys and other bytes. RFC 3629, section 3;
-- The Unicode Standard, section 3.9, 'Unicode Encoding Forms'.
use Rattle.std.specs.Prelude.{ℕ, ◌≡◌, ◌≢◌, ◌≤◌, ⊤, List, [], ◌∷◌, ◌++◌, encode_utf8}
use Rattle.std.specs.Char.{IsScalar}
use Rattle.scr_keys.specs.declared.keys.Key.{Key}
use Rattle.scr_keys.specs.declared.keys.Key.TheVariants as keys
use Rattle.scr_keys.specs.declared.typing.Typed.{Typed}
use Rattle.scr_keys.specs.declared.typing.Typed.TheVariants as typed

-- What arrives: a key or a byte came, or none came for a while.
pub data Arrival : Type 0 where
  Came : (key : Key) → Arrival
  Idled : Arrival

-- These bytes came, one after the other.
abbrev pub came : List ℕ → List Arrival
came [] = []
came (byte ∷ bytes) = Came (keys.Byte byte) ∷ came bytes

-- A character of two to four bytes: a scalar value beyond ASCII.
pub record IsMultibyte (character : ℕ) : Type 0 where
  pub scalar : IsScalar character
  pub beyond : 128 ≤ character

-- The bytes begin the sequence of bytes of such a character; they are neither none nor all of it.
pub record IsBegun (bytes : List ℕ) : Type 0 where
  pub character : ℕ
  pub rest : List ℕ
  pub multibyte : IsMultibyte character
  pub sequence : bytes ++ rest ≡ encode_utf8 character
  pub some : bytes ≢ []
  pub more : rest ≢ []

-- Nothing waits, or the beginning of a sequence does.
abbrev pub CanWait : List ℕ → Type 0
CanWait [] = ⊤
CanWait (byte ∷ bytes) = IsBegun (byte ∷ bytes)

-- What arrives begins with the sequence of such a character, or would if the right bytes came next.
pub record BeginsSequence (arrivals : List Arrival) : Type 0 where
  pub character : ℕ
  pub next : List Arrival
  pub rest : List Arrival
  pub multibyte : IsMultibyte character
  pub sequence : arrivals ++ next ≡ came (encode_utf8 character) ++ rest

-- What is typed by what arrives, and the bytes that wait in the end. Six rules say it all.
pub data AreTyped : List Arrival → List Typed → List ℕ → Type 0 where
  -- Where nothing arrives, nothing is typed.
  Nothing : AreTyped [] [] []
  -- The beginning of a sequence waits for more.
  Waiting : (bytes : List ℕ) → IsBegun bytes → AreTyped (came bytes) [] bytes
  -- The bytes of a character are that character.
  Joined : (character : ℕ) (arrivals : List Arrival) (read : List Typed) (left : List ℕ) → IsMultibyte character → AreTyped arrivals read left
      → AreTyped (came (encode_utf8 character) ++ arrivals) (typed.Character character ∷ read) left
  -- A byte at which no sequence begins is itself.
  Alone : (byte : ℕ) (arrivals : List Arrival) (read : List Typed) (left : List ℕ) → ¬ (BeginsSequence (Came (keys.Byte byte) ∷ arrivals)) → AreTyped arrivals read left
      → AreTyped (Came (keys.Byte byte) ∷ arrivals) (typed.Byte byte ∷ read) left
  -- A key is itself.
  Pressed : (slot : ℕ) (arrivals : List Arrival) (read : List Typed) (left : List ℕ) → AreTyped arrivals read left → AreTyped (Came (keys.Slot slot) ∷ arrivals) (typed.Key slot ∷ read) left
  -- An idle is nothing; no sequence goes on behind it.
  Paused : (arrivals : List Arrival) (read : List Typed) (left : List ℕ) → AreTyped arrivals read left → AreTyped (Idled ∷ arrivals) read left
