-- What is asked of a screen and of what the next update brings its terminal to.
use Rattle.std.specs.Prelude.{ℕ, List, Option, Some, None, nat_le, ltb, ◌-◌, ◌&&◌, ◌==◌, slice_index_or, if◌then◌else◌}
use Rattle.scr_cells.specs.CellViews.{blank_cell}
use Rattle.scr_cells.specs.Grids.{grid_at}
use Rattle.scr_cells.specs.PictureViews.{PictureView}
use Rattle.scr_windows.specs.declared.faults.Win.{Win}
use Rattle.huttavel_c.specs.Replies.{refused, with_cell, with_one, with_two}
use Rattle.huttavel_c.specs.declared.answers.Reply.{Reply}

-- A window at an index.
abbrev pub nth_reply : Option Win → Reply
nth_reply (Some win) = with_one win.0
nth_reply None = refused 10

-- The number of a colour; the terminal's default has the last of 32 bits.
abbrev pub colour_number : Option ℕ → ℕ
colour_number None = 4294967295
colour_number (Some colour) = colour

abbrev pub colour_numbers : Option ℕ × Option ℕ → ℕ × ℕ
colour_numbers colours = (colour_number colours.0, colour_number colours.1)

-- The colour that a number is given for.
abbrev pub colour_given : ℕ → Option ℕ
colour_given number = if number == 4294967295 then None else Some number

-- The colours of a pair; pair 0 has the terminal's own.
abbrev pub colours_of : List (Option ℕ × Option ℕ) → ℕ → Reply
colours_of pairs pair = if nat_le 1 pair && nat_le pair 63 then with_two (colour_numbers (slice_index_or pairs (pair - 1) (Some 7, Some 0))) else refused 23

-- The cell at a place of the screen.
abbrev pub wanted_reply : PictureView → ℕ → ℕ → Reply
wanted_reply picture row column =
    if ltb row picture.rows && ltb column picture.columns then with_cell (grid_at blank_cell picture.lines row column) else refused 17

-- Where the cursor is wanted.
abbrev pub cursor_reply : Option (ℕ × ℕ) → Reply
cursor_reply (Some place) = with_two place
cursor_reply None = refused 26
