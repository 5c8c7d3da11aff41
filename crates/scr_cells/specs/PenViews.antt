-- What a character is written with: attributes, a foreground and a background colour. X/Open Curses Issue 7,
-- 'Attributes' and 'Color'; ECMA-48, 'graphic rendition'.
use Rattle.std.specs.Prelude.{ℕ, ◌-◌, ◌<◌, ◌==◌, ◌&&◌, Bool, Option, Some, None, IfSome, List, bit_or, replicate, slice_index_or, if◌then◌else◌}
use Rattle.std.specs.Option.{is_none, option_eq}
use Rattle.std.specs.Ordering.{eq_of_both, on}
use Rattle.scr_cells.specs.Attributes.{negative_set}

-- A pen: a set of attributes and two colours; no colour means the terminal's default.
pub record PenView : Type 0 where
  pub attrs : ℕ
  pub foreground : Option ℕ
  pub background : Option ℕ

-- One of the eight colours: black, red, green, yellow, blue, magenta, cyan, white.
abbrev pub IsColour : ℕ → Type 0
IsColour colour = colour < 8

-- A valid pen.
pub record IsPen (pen : PenView) : Type 0 where
  pub attributes : pen.attrs < 256
  pub foreground : IfSome pen.foreground IsColour
  pub background : IfSome pen.background IsColour

-- The plain pen: no attribute, default colours.
abbrev pub plain_pen : PenView
plain_pen = record { attrs = 0; foreground = None; background = None }

-- It is the plain pen.
abbrev pub is_plain_pen : PenView → Bool
is_plain_pen pen = pen.attrs == 0 && is_none pen.foreground && is_none pen.background

-- Both pens have the same attributes and colours.
abbrev pub pen_eq : PenView → PenView → Bool
pen_eq = eq_of_both (on (λ pen. pen.attrs) ◌==◌) (eq_of_both (on (λ pen. pen.foreground) (option_eq ◌==◌)) (on (λ pen. pen.background) (option_eq ◌==◌)))

-- The pen with one attribute added.
abbrev pub with_attribute : PenView → ℕ → PenView
with_attribute pen attribute = record pen { attrs = bit_or pen.attrs attribute }

-- The negative of a pen: reverse in place of standout.
abbrev pub negative_pen : PenView → PenView
negative_pen pen = record pen { attrs = negative_set pen.attrs }

-- The colours of pairs 1 to 63 at first: white on black.
unfoldable pub first_pairs : List (Option ℕ × Option ℕ)
first_pairs = replicate 63 (Some 7, Some 0)

-- The foreground and background of a pair; pair 0 has the default colours.
abbrev pub pair_colours : List (Option ℕ × Option ℕ) → ℕ → Option ℕ × Option ℕ
pair_colours pairs pair = if pair == 0 then (None, None) else slice_index_or pairs (pair - 1) (Some 7, Some 0)
