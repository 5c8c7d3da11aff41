-- Words of private functions, which write the characters that a text begins with into a row in one go.
use Rattle.std.specs.Prelude.{ℕ, suc, List, [], ◌∷◌, Option, Some, None, ◌-◌, ◌==◌, ◌&&◌, leb, ltb, slice_index_or, if◌then◌else◌}
use Rattle.scr_cells.specs.CellViews.{CellView}
use Rattle.scr_cells.specs.Characters.{is_ascii}

-- how many characters some bytes begin with
abbrev pub characters_first : List ℕ → ℕ
characters_first [] = 0
characters_first (byte ∷ bytes) = if is_ascii byte then suc (characters_first bytes) else 0

-- the cell of a character where a blank gets this one
abbrev pub cell_beside : CellView → ℕ → CellView
cell_beside blank byte = if byte == 32 then blank else record blank { character = byte }

-- the same of a byte, if it is a character
abbrev pub form_of : CellView → ℕ → Option CellView
form_of blank byte = if is_ascii byte then Some (cell_beside blank byte) else None

-- the cells of characters by columns, where the first is in column `from`
abbrev pub forms_from : CellView → ℕ → List ℕ → ℕ → CellView
forms_from blank from bytes c = cell_beside blank (slice_index_or bytes (c - from) 0)

-- the places of one row from column `from` up to, but not including, `end` get cells by their columns
abbrev pub row_laid : ℕ → ℕ → ℕ → (ℕ → CellView) → (ℕ → ℕ → CellView) → ℕ → ℕ → CellView
row_laid row from end value at r c = if r == row && leb from c && ltb c end then value c else at r c
