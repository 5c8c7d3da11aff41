-- What a terminal shows in one place. ECMA-48, 'graphic rendition'.
use Rattle.std.specs.Prelude.{ℕ, Bool, Option, None, bit_and, List, map, if◌then◌else◌}
use Rattle.scr_cells.specs.CellViews.{CellView}
use Rattle.scr_cells.specs.Characters.{IsCharacter, seen_character}
use Rattle.scr_cells.specs.declared.charsets.Charset.{Charset}
use Rattle.scr_cells.specs.Grids.{grid_of}
use Rattle.scr_cells.specs.PenViews.{PenView, IsPen, negative_pen, pair_colours, plain_pen}

-- A look: a character, and the pen (attributes and colours) that it is shown with.
pub record LookView : Type 0 where
  pub character : ℕ
  pub pen : PenView

-- A valid look.
pub record IsLook (look : LookView) : Type 0 where
  pub character : IsCharacter look.character
  pub pen : IsPen look.pen

-- A blank: character 32 without attributes, in default colours.
abbrev pub blank : LookView
blank = record { character = 32; pen = plain_pen }

-- Blanks everywhere.
abbrev pub blank_grid : ℕ → ℕ → List (List LookView)
blank_grid rows columns = grid_of rows columns (λ _ _. blank)

-- The pen that a cell is shown with, on a terminal that shows these attributes, and colours or none: those of its
-- attributes that are shown, and the colours of its pair.
abbrev pub seen_pen : ℕ → Bool → List (Option ℕ × Option ℕ) → CellView → PenView
seen_pen shown colours pairs cell = record {
  attrs = bit_and shown cell.attrs;
  foreground = if colours then (pair_colours pairs cell.pair).0 else None;
  background = if colours then (pair_colours pairs cell.pair).1 else None;
}

-- What the terminal shows of a cell, if it has this charset: its character or its stand-in, with that pen.
abbrev pub seen : Charset → ℕ → Bool → List (Option ℕ × Option ℕ) → CellView → LookView
seen charset shown colours pairs cell = record {
  character = seen_character charset cell.character;
  pen = seen_pen shown colours pairs cell;
}

-- The negative of a look: reverse in place of standout.
abbrev pub negative : LookView → LookView
negative look = record look { pen = negative_pen look.pen }

-- The same for every place of a grid.
abbrev pub negative_grid : List (List LookView) → List (List LookView)
negative_grid grid = map (map negative) grid
