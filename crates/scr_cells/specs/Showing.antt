-- Places that have the shown form of their cells.
use Rattle.std.specs.Prelude.{ℕ, Bool, ◌≡◌, ◌≢◌, List, Option, Some, None, slice_index_or}
use Rattle.scr_cells.specs.CellViews.{CellView, blank_cell}
use Rattle.scr_cells.specs.LookViews.{LookView, blank, seen}
use Rattle.scr_cells.specs.declared.charsets.Charset.{Charset}

-- What a row shows in a place. A row whose looks are not given shows blanks.
abbrev pub shown_in : Option (List LookView) → ℕ → LookView
shown_in None place = blank
shown_in (Some looks) place = slice_index_or looks place blank

-- The place has the shown form of its cell on a terminal with this charset that shows these attributes, with colours or
-- without, whatever colours the pairs have.
abbrev pub IsSeenAt : Charset → ℕ → Option (List LookView) → List CellView → ℕ → Type 0
IsSeenAt charset shown looks cells place =
    (colours : Bool) (pairs : List (Option ℕ × Option ℕ)) → shown_in looks place ≡ seen charset shown colours pairs (slice_index_or cells place blank_cell)

-- The place shows something else.
abbrev pub IsUnseenAt : Charset → ℕ → Option (List LookView) → List CellView → ℕ → Type 0
IsUnseenAt charset shown looks cells place =
    (colours : Bool) (pairs : List (Option ℕ × Option ℕ)) → shown_in looks place ≢ seen charset shown colours pairs (slice_index_or cells place blank_cell)

-- The cell in this place has the same attributes and pair as another.
pub record HasRendition (first : CellView) (cells : List CellView) (place : ℕ) : Type 0 where
  pub attrs : (slice_index_or cells place blank_cell).attrs ≡ first.attrs
  pub pair : (slice_index_or cells place blank_cell).pair ≡ first.pair
