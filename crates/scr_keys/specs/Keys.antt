-- Keys: which bytes from a keyboard are which key. terminfo(5), 'Function Keys'; X/Open Curses Issue 7, getch(),
-- keypad().
use Rattle.std.specs.Prelude.{ℕ, suc, zero, ◌-◌, ◌&&◌, max, ◌≡◌, Bool, true, false, List, [], ◌∷◌, drop, length, take, Option, Some, None, option_map, nat_lt, if◌then◌else◌}
use Rattle.std.specs.List.{list_any}
use Rattle.std.specs.Str.{bytes_eq}
use Rattle.ti_caps.specs.Table.{or_else}
use Rattle.scr_keys.specs.declared.keys.Key.{Key}
use Rattle.scr_keys.specs.declared.keys.Key.TheVariants.{Slot, Byte}

-- A terminal's keys: the text that each sends, and its position in the capability table. No text is empty, and none
-- occurs twice.
abbrev pub Keys : Type 0
Keys = List (List ℕ × ℕ)

-- The key that sends exactly this text.
abbrev pub key_of : Keys → List ℕ → Option ℕ
key_of [] text = None
key_of (key ∷ keys) text = if bytes_eq text key.0 then Some key.1 else key_of keys text

-- The bytes are a proper beginning of a text.
abbrev pub is_beginning : List ℕ → List ℕ → Bool
is_beginning bytes text = nat_lt (length bytes) (length text) && bytes_eq bytes (take (length bytes) text)

-- The bytes could become a key if more follow.
abbrev pub goes_on : Keys → List ℕ → Bool
goes_on keys bytes = list_any (λ key. is_beginning bytes key.0) keys

-- The longest beginning of the bytes, of at most n bytes, that is a key's text: the key, and the length.
abbrev pub longest : Keys → List ℕ → ℕ → Option (ℕ × ℕ)
longest keys bytes zero = None
longest keys bytes (suc n) = or_else (option_map (λ slot. (slot, suc n)) (key_of keys (take (suc n) bytes))) (longest keys bytes n)

-- That key, or else the first byte alone.
abbrev pub key_or_byte : ℕ → Option (ℕ × ℕ) → Key × ℕ
key_or_byte byte None = (Byte byte, 1)
key_or_byte byte (Some key) = (Slot key.0, key.1)

-- The first key of some bytes and how many bytes it has: the longest text of a key that they begin with, or else the
-- first byte.
abbrev pub first_key : Keys → ℕ → List ℕ → Key × ℕ
first_key keys byte bytes = key_or_byte byte (longest keys (byte ∷ bytes) (length (byte ∷ bytes)))

-- The same for a list of bytes.
abbrev pub first_of : Keys → List ℕ → Key × ℕ
first_of keys [] = (Byte 0, 1)
first_of keys (byte ∷ bytes) = first_key keys byte bytes

-- How bytes are read as keys, where more of them may follow (`more`) or none do: the keys in order, and the bytes that
-- remain. Three rules say it all.
pub data AreRead (more : Bool) (keys : Keys) : List ℕ → List Key → List ℕ → Type 0 where
  -- No bytes give no key.
  Nothing : AreRead more keys [] [] []
  -- Bytes that could become a key wait, if more may follow.
  Waiting : (bytes : List ℕ) → (more && goes_on keys bytes) ≡ true → AreRead more keys bytes [] bytes
  -- Otherwise their first key is read, and then the bytes after it.
  First : (byte : ℕ) (bytes : List ℕ) (read : List Key) (left : List ℕ) → (more && goes_on keys (byte ∷ bytes)) ≡ false
      → AreRead more keys (drop (first_key keys byte bytes).1 (byte ∷ bytes)) read left → AreRead more keys (byte ∷ bytes) ((first_key keys byte bytes).0 ∷ read) left

-- The keys that these rules read, computed: those of the bytes after the first n, which belong to an earlier key.
abbrev pub keys_read : Bool → Keys → ℕ → List ℕ → List Key
keys_read more keys n [] = []
keys_read more keys (suc n) (byte ∷ bytes) = keys_read more keys n bytes
keys_read more keys zero (byte ∷ bytes) =
    if more && goes_on keys (byte ∷ bytes) then [] else (first_key keys byte bytes).0 ∷ keys_read more keys ((first_key keys byte bytes).1 - 1) bytes

-- The bytes that remain by these rules.
abbrev pub bytes_left : Bool → Keys → ℕ → List ℕ → List ℕ
bytes_left more keys n [] = []
bytes_left more keys (suc n) (byte ∷ bytes) = bytes_left more keys n bytes
bytes_left more keys zero (byte ∷ bytes) = if more && goes_on keys (byte ∷ bytes) then byte ∷ bytes else bytes_left more keys ((first_key keys byte bytes).1 - 1) bytes

-- All keys of these bytes when no more follow.
abbrev pub keys_in : Keys → List ℕ → List Key
keys_in keys bytes = keys_read false keys 0 bytes

-- The keys that are certain while more bytes may still follow.
abbrev pub decided : Keys → List ℕ → List Key
decided keys bytes = keys_read true keys 0 bytes

-- The bytes that remain after these keys.
abbrev pub undecided : Keys → List ℕ → List ℕ
undecided keys bytes = bytes_left true keys 0 bytes

-- The length of the longest key text.
abbrev pub longest_text : Keys → ℕ
longest_text [] = 0
longest_text (key ∷ keys) = max (length key.0) (longest_text keys)
