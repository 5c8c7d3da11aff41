-- What a cell of a window holds. X/Open Curses Issue 7, 'Characters' and 'Color'.
use Rattle.std.specs.Prelude.{ℕ, ◌<◌, ◌-◌, ◌==◌, bit_and, bit_or, if◌then◌else◌}
use Rattle.scr_cells.specs.Characters.{IsCharacter}

-- A cell: a character, a set of attributes, and the number of a colour pair, where 0 is the terminal's default colours.
pub record CellView : Type 0 where
  pub character : ℕ
  pub attrs : ℕ
  pub pair : ℕ

-- The number of a colour pair.
abbrev pub IsPair : ℕ → Type 0
IsPair pair = pair < 64

-- A valid cell.
pub record IsCell (cell : CellView) : Type 0 where
  pub character : IsCharacter cell.character
  pub attributes : cell.attrs < 256
  pub pair : IsPair cell.pair

-- A blank without attributes, in default colours.
abbrev pub blank_cell : CellView
blank_cell = record { character = 32; attrs = 0; pair = 0 }

-- bkgd(): a cell after the background `old` is replaced by `new`. The old character and pair become the new ones, the
-- old attributes are removed and the new ones added.
abbrev pub exchanged : CellView → CellView → CellView → CellView
exchanged old new cell =
    record {
      character = if cell.character == old.character then new.character else cell.character;
      attrs = bit_or (bit_and cell.attrs (255 - old.attrs)) new.attrs;
      pair = if cell.pair == old.pair then new.pair else cell.pair;
    }
