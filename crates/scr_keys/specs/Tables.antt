-- The keys of an entry: its texts whose names begin with k. terminfo(5), 'Function Keys'.
-- The names are those of the capability table, or all of term.h.
use Rattle.std.specs.Prelude.{ℕ, ◌≡◌, suc, zero, ◌==◌, ◌&&◌, not, Bool, true, false, List, [], ◌∷◌, ◌++◌, length, Option, Some, None, nat_lt, is_some, if◌then◌else◌}
use Rattle.ti_caps.specs.declared.table.Kind.TheVariants.{Text}
use Rattle.ti_caps.specs.Description.{Description, text_at}
use Rattle.ti_caps.specs.Standard.{standard_name_at}
use Rattle.ti_caps.specs.Table.{name_at, or_else}
use Rattle.ti_param.specs.Stripped.{stripped}
use Rattle.scr_keys.specs.declared.faults.KeyFault.{KeyFault}
use Rattle.scr_keys.specs.declared.faults.KeyFault.TheVariants.{KeyTooLong, NoMemory, QueueFull}
use Rattle.scr_keys.specs.declared.sets.KeySet.{KeySet}
use Rattle.scr_keys.specs.declared.sets.KeySet.TheVariants.{Table, All}
use Rattle.scr_keys.specs.Keys.{Keys, key_of}

-- The capability's name begins with k.
abbrev pub begins_with_k : Option (List ℕ) → Bool
begins_with_k (Some (byte ∷ name)) = byte == 107
begins_with_k _ = false

-- The name of the text at this position, if these keys have one there.
abbrev pub text_name_at : KeySet → ℕ → Option (List ℕ)
text_name_at Table slot = name_at Text slot
text_name_at All slot = standard_name_at Text slot

-- The capability at this position is one of these keys.
abbrev pub is_key : KeySet → ℕ → Bool
is_key set slot = begins_with_k (text_name_at set slot)

-- The text without its padding; empty if it is absent.
abbrev pub without_padding : Option (List ℕ) → List ℕ
without_padding None = []
without_padding (Some text) = stripped text

-- What the key at a position sends, without padding; nothing if there is no key.
abbrev pub text_of_key : KeySet → Description → ℕ → List ℕ
text_of_key set entry slot = if is_key set slot then without_padding (text_at entry slot) else []

-- The text makes a new key: it is not empty, and no other key sends it.
abbrev pub is_new : Keys → List ℕ → Bool
is_new keys text = not (length text == 0) && not (is_some (key_of keys text))

-- The keys with this one added, if its text makes a new key.
abbrev pub with_key : Keys → List ℕ → ℕ → Keys
with_key keys text slot = if is_new keys text then keys ++ (text, slot) ∷ [] else keys

-- The keys at the first n positions.
abbrev pub keys_below : KeySet → Description → ℕ → Keys
keys_below set entry zero = []
keys_below set entry (suc n) = with_key (keys_below set entry n) (text_of_key set entry n) n

-- All of these keys that an entry has.
unfoldable pub keys_of : KeySet → Description → Keys
keys_of set entry = keys_below set entry 512

-- The first position below n with a key text longer than 64 bytes.
abbrev pub too_long_below : KeySet → Description → ℕ → Option ℕ
too_long_below set entry zero = None
too_long_below set entry (suc n) = or_else (too_long_below set entry n) (if nat_lt 64 (length (text_of_key set entry n)) then Some n else None)

-- The first position whose key text is too long.
unfoldable pub too_long : KeySet → Description → Option ℕ
too_long set entry = too_long_below set entry 512

-- These are the keys of the entry, and none of its key texts is too long.
pub record AreKeysOf (set : KeySet) (entry : Description) (keys : Keys) : Type 0 where
  pub all : keys ≡ keys_of set entry
  pub few : too_long set entry ≡ None

-- Why an entry's keys are refused: a text is too long, or memory ran out.
abbrev pub AreRefused : KeySet → Description → KeyFault → Type 0
AreRefused set entry NoMemory = Unit {0}
AreRefused set entry QueueFull = ⊥
AreRefused set entry (KeyTooLong slot) = too_long set entry ≡ Some slot.0

-- The entry has a text for a key at this position.
abbrev pub HasKeyAt : KeySet → Description → ℕ → Type 0
HasKeyAt set entry slot = (is_key set slot && is_some (text_at entry slot)) ≡ true

-- The entry has a text for some key: without one nothing is allocated.
abbrev pub HasKeys : KeySet → Description → Type 0
HasKeys set entry = (slot : ℕ) × HasKeyAt set entry slot
