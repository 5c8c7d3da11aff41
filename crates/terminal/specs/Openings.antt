-- How a screen is opened on the terminal of the program.
use Rattle.std.specs.Prelude.{◌==◌, ◌||◌, Bool, true, Option, Some, None}
use Rattle.scr_cells.specs.declared.sizes.Size.{Size}

-- A screen of this size may be smaller than its terminal: it has the most rows or columns that a screen can have, or
-- nothing says what size the terminal has.
abbrev pub may_be_larger : Option Size → Bool
may_be_larger None = true
may_be_larger (Some size) = size.rows == 500 || size.columns == 500
