-- What a terminal's screen can show.
use Rattle.std.specs.Prelude.{ℕ, ◌≡◌, Bool, true, bit_and}
use Rattle.scr_cells.specs.Attributes.{every_attribute}
use Rattle.scr_cells.specs.PictureViews.{IsSize}
use Rattle.scr_cells.specs.declared.charsets.Charset.{Charset}

-- The numbers of rows and columns; which characters are shown; the attributes that are; and whether colours are.
pub record Abilities : Type 0 where
  pub rows : ℕ
  pub columns : ℕ
  pub charset : Charset
  pub shown : ℕ
  pub colours : Bool

-- A valid size, and no attributes but the seven.
pub record AreAbilities (abilities : Abilities) : Type 0 where
  pub size : IsSize abilities.rows abilities.columns
  pub shown : bit_and every_attribute abilities.shown ≡ abilities.shown

-- A screen with this charset that shows every attribute, and colours.
abbrev pub full_abilities : Charset → ℕ → ℕ → Abilities
full_abilities charset rows columns = record { rows = rows; columns = columns; charset = charset; shown = every_attribute; colours = true }
