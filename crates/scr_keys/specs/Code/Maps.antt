-- What a table keeps to find keys by.
use Rattle.std.specs.Prelude.{ℕ, ◌≡◌, ◌<◌, ◌≤◌, ◌==◌, max, Bool, true, false, List, [], ◌∷◌, get_or, length, map, take, is_some, if◌then◌else◌}
use Rattle.scr_keys.specs.Keys.{Keys, goes_on, key_of, longest_text}

-- a map from texts, as a list of keys
abbrev pub seen : {K : Type 0} → (K → List ℕ) → List (K × ℕ) → Keys
seen bytes entries = map (λ e. (bytes e.0, e.1)) entries

-- each beginning of a text in a map is in the map
abbrev pub IsClosed : Keys → Type 0
IsClosed keys = (text : List ℕ) (n : ℕ) → is_some (key_of keys text) ≡ true → is_some (key_of keys (take n text)) ≡ true

-- the first byte of a text is this one
abbrev pub begins_with : ℕ → List ℕ → Bool
begins_with byte [] = false
begins_with byte (first ∷ text) = byte == first

-- how many bytes a text has that begins with this one; none, if it does not
abbrev pub length_from : ℕ → List ℕ → ℕ
length_from byte text = if begins_with byte text then length text else 0

-- how many bytes the longest text has that begins with this one
abbrev pub longest_from : ℕ → Keys → ℕ
longest_from byte [] = 0
longest_from byte (key ∷ keys) = max (length_from byte key.0) (longest_from byte keys)

-- how many bytes the longest text has that begins with the same byte as some bytes; where there are none, the longest of all
abbrev pub longest_like : Keys → List ℕ → ℕ
longest_like keys [] = longest_text keys
longest_like keys (byte ∷ bytes) = longest_from byte keys

-- what the keys of a table are found by: their texts, the beginnings of these, how many bytes the longest text has, and
-- how many the longest has that begins with each byte
pub record MapsView : Type 0 where
  pub keys : Keys
  pub beginnings : Keys
  pub longest : ℕ
  pub firsts : List ℕ

-- they are those of these keys
pub record IsTable (maps : MapsView) : Type 0 where
  pub by_beginning : (bytes : List ℕ) → is_some (key_of maps.beginnings bytes) ≡ goes_on maps.keys bytes
  pub longest : maps.longest ≡ longest_text maps.keys
  pub few : maps.longest ≤ 64
  pub by_first : (byte : ℕ) → byte < 256 → get_or maps.firsts byte 0 ≡ longest_from byte maps.keys
