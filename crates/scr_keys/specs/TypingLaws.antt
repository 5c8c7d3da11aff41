-- Laws of what is typed: nothing is lost, the rules have one answer, and what arrives may come in pieces.
use Rattle.std.specs.Prelude.{ℕ, ◌≡◌, ◌≤◌, List, [], ◌∷◌, ◌++◌, encode_utf8, length, map}
use Rattle.scr_keys.specs.declared.keys.Key.{Key}
use Rattle.scr_keys.specs.declared.keys.Key.TheVariants as keys
use Rattle.scr_keys.specs.declared.typing.Typed.{Typed}
use Rattle.scr_keys.specs.declared.typing.Typed.TheVariants as typed
use Rattle.scr_keys.specs.Typing.{AreTyped, Arrival, Came, CanWait, Idled, came}

-- The keys and bytes among what arrives.
abbrev pub keys_of : List Arrival → List Key
keys_of [] = []
keys_of (Came key ∷ arrivals) = key ∷ keys_of arrivals
keys_of (Idled ∷ arrivals) = keys_of arrivals

-- Bytes, each for itself.
abbrev pub as_bytes : List ℕ → List Key
as_bytes bytes = map (λ byte. keys.Byte byte) bytes

-- What is typed, with each character as its bytes in UTF-8.
abbrev pub spelled : List Typed → List Key
spelled [] = []
spelled (typed.Character character ∷ read) = as_bytes (encode_utf8 character) ++ spelled read
spelled (typed.Key slot ∷ read) = keys.Slot slot ∷ spelled read
spelled (typed.Byte byte ∷ read) = keys.Byte byte ∷ spelled read

-- What is typed, and what waits behind it, is what arrived: nothing is lost, nothing comes twice, and the order stays.
abbrev pub LosesNothing : Type 0
LosesNothing = (arrivals : List Arrival) (read : List Typed) (left : List ℕ) → AreTyped arrivals read left → spelled read ++ as_bytes left ≡ keys_of arrivals

-- The rules have one answer at most.
abbrev pub TypedInOneWay : Type 0
TypedInOneWay = (arrivals : List Arrival) (read others : List Typed) (left rest : List ℕ) → AreTyped arrivals read left → AreTyped arrivals others rest → (read ≡ others) × (left ≡ rest)

-- What is typed by the bytes that wait, and by what arrives after them, is what is typed by the whole.
abbrev pub TypedInPieces : Type 0
TypedInPieces = (first second : List Arrival) (read more : List Typed) (waiting left : List ℕ) → AreTyped first read waiting → AreTyped (came waiting ++ second) more left → AreTyped (first ++ second) (read ++ more) left

-- What waits is nothing, or one to three bytes that begin a sequence.
abbrev pub WaitsForMore : Type 0
WaitsForMore = (arrivals : List Arrival) (read : List Typed) (left : List ℕ) → AreTyped arrivals read left → CanWait left × (length left ≤ 3)
