-- Locales, by their names: `LANGUAGE.CODESET` and perhaps `@MODIFIER`. X/Open Base Definitions, 8.2.
use Rattle.std.specs.Prelude.{ℕ, ◌≡◌, ◌≢◌, ◌<◌, ◌⊎◌, List, [], ◌∷◌, ◌++◌, MatchBool, codes, false, get_or, length, map}
use Rattle.std.specs.Char.{to_ascii_lowercase}
use Rattle.scr_cells.specs.Characters.{is_utf8}
use Rattle.scr_keys.specs.declared.sets.KeySet.TheVariants.{All}
use Rattle.curses.specs.declared.opening.Opening.{Opening}

-- No byte of a text is this one.
abbrev pub HasNo : ℕ → List ℕ → Type 0
HasNo byte text = (i : ℕ) → i < length text → get_or text i 0 ≢ byte

-- A codeset is UTF-8, in any case, with a dash or without one.
abbrev pub IsUtf8Codeset : List ℕ → Type 0
IsUtf8Codeset codeset = (map to_ascii_lowercase codeset ≡ codes "utf-8") ⊎ (map to_ascii_lowercase codeset ≡ codes "utf8")

-- A text is this codeset and a modifier, or nothing behind it: an `@` (64) begins one.
pub record HasCodeset (text codeset : List ℕ) : Type 0 where
  pub modifier : List ℕ
  pub parts : text ≡ codeset ++ modifier
  pub whole : HasNo 64 codeset
  pub begins : (modifier ≡ []) ⊎ ((more : List ℕ) × (modifier ≡ 64 ∷ more))

-- The name of a locale says UTF-8: that is the codeset behind its first dot (46).
pub record SaysUtf8 (locale : List ℕ) : Type 0 where
  pub language : List ℕ
  pub codeset : List ℕ
  pub rest : List ℕ
  pub parts : locale ≡ language ++ 46 ∷ rest
  pub first_dot : HasNo 46 language
  pub behind : HasCodeset rest codeset
  pub utf8 : IsUtf8Codeset codeset

-- The first of two names that is not empty, if one is.
abbrev pub first_named : List ℕ → List ℕ → List ℕ
first_named [] second = second
first_named first second = first

-- How a screen is opened in the locale of this name: in UTF-8 exactly if the name says so, and with all keys. Whether its
-- terminal may be larger is for its size to say.
pub record IsOpenedIn (locale : List ℕ) (opening : Opening) : Type 0 where
  pub charset : MatchBool (is_utf8 opening.charset) (SaysUtf8 locale) (¬ SaysUtf8 locale)
  pub keys : opening.keys ≡ All
  pub larger : opening.is_larger ≡ false
