-- The virtual screen, onto which windows are copied before the terminal is written. curs_refresh(3X), 'virtual screen';
-- X/Open Curses Issue 7, doupdate().
use Rattle.std.specs.Prelude.{ℕ, Bool, false, ◌≡◌, ◌+◌, ◌-◌, ◌&&◌, leb, ltb, List, length, replicate, slice_index_or, Option, None, Some}
use Rattle.scr_cells.specs.PictureViews.{IsPicture, PictureView, blank_picture}
use Rattle.scr_virtual.specs.Ranges.{AreRanges, ranges_with}

-- The picture to show; whether the whole screen is to be repainted; and two ranges for each row since the ranges were
-- last emptied: columns that may have changed, and those that may look different (a line copied where it already is
-- alters none).
pub record VirtualView : Type 0 where
  pub picture : PictureView
  pub repaint : Bool
  pub changed : List (Option (ℕ × ℕ))
  pub altered : List (Option (ℕ × ℕ))

-- A valid virtual screen: a valid picture, and for each row two ranges, each in its columns or empty.
pub record IsVirtual (virtual : VirtualView) : Type 0 where
  pub picture : IsPicture virtual.picture
  pub rows : length virtual.changed ≡ virtual.picture.rows
  pub ranges : AreRanges virtual.picture.columns virtual.changed
  pub altered_rows : length virtual.altered ≡ virtual.picture.rows
  pub altered_ranges : AreRanges virtual.picture.columns virtual.altered

-- A blank picture of which nothing has changed.
abbrev pub blank_virtual : ℕ → ℕ → VirtualView
blank_virtual rows columns = record { picture = blank_picture rows columns; repaint = false; changed = replicate rows None; altered = replicate rows None }

-- The columns of row r that may have changed.
abbrev pub range_at : VirtualView → ℕ → Option (ℕ × ℕ)
range_at virtual r = slice_index_or virtual.changed r None

-- The columns of row r that may look different.
abbrev pub altered_at : VirtualView → ℕ → Option (ℕ × ℕ)
altered_at virtual r = slice_index_or virtual.altered r None

-- Nothing is to be repainted, and all ranges are empty.
abbrev pub settled : VirtualView → VirtualView
settled virtual = record virtual { repaint = false; changed = replicate (length virtual.changed) None; altered = replicate (length virtual.altered) None }

-- wredrawln(): n rows from `first` on, as far as there are any, may have changed in their whole width.
unfoldable pub marked_rows : ℕ → ℕ → VirtualView → VirtualView
marked_rows first n virtual =
    let whole : List (Option (ℕ × ℕ)) → List (Option (ℕ × ℕ)) = ranges_with (λ r. leb first r && ltb r (first + n)) (λ _ _. Some (0, virtual.picture.columns - 1)) in
    record virtual { changed = whole virtual.changed; altered = whole virtual.altered }
