-- Laws of keys: what is computed is what the rules read, and how input is cut into pieces does not matter. X/Open Curses
-- Issue 7, getch().
use Rattle.std.specs.Prelude.{ℕ, ◌≡◌, ◌↔◌, Bool, List, [], ◌∷◌, ◌++◌}
use Rattle.scr_keys.specs.declared.keys.Key.{Key}
use Rattle.scr_keys.specs.Keys.{AreRead, Keys, bytes_left, decided, keys_in, keys_read, undecided}

-- The rules read any bytes in exactly one way, which is the one computed.
abbrev pub KeysAreRead : Type 0
KeysAreRead = (more : Bool) (keys : Keys) (bytes : List ℕ) (read : List Key) (left : List ℕ)
    → AreRead more keys bytes read left ↔ ((read ≡ keys_read more keys 0 bytes) × (left ≡ bytes_left more keys 0 bytes))

-- What a keyboard does: a byte arrives, or none arrives for a while.
pub data Event : Type 0 where
  Came : (byte : ℕ) → Event
  Idled : Event

-- The keys of these events. A pause ends a stretch of bytes, and all its keys count; of the current stretch, `bytes`,
-- only the keys that are already decided do.
abbrev pub keys_from : Keys → List ℕ → List Event → List Key
keys_from keys bytes [] = decided keys bytes
keys_from keys bytes (Came byte ∷ events) = keys_from keys (bytes ++ byte ∷ []) events
keys_from keys bytes (Idled ∷ events) = keys_in keys bytes ++ keys_from keys [] events

-- The keys that a reader adds if it keeps the undecided bytes, event by event.
abbrev pub keys_added : Keys → List ℕ → List Event → List Key
keys_added keys waiting [] = []
keys_added keys waiting (Came byte ∷ events) = decided keys (waiting ++ byte ∷ []) ++ keys_added keys (undecided keys (waiting ++ byte ∷ [])) events
keys_added keys waiting (Idled ∷ events) = keys_in keys waiting ++ keys_added keys [] events

-- Both give the same keys in the same order.
abbrev pub PiecesDoNotMatter : Type 0
PiecesDoNotMatter = (keys : Keys) (events : List Event) → keys_added keys [] events ≡ keys_from keys [] events
