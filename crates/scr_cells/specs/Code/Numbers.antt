-- Looks and cells that are one number: words of private functions.
use Rattle.std.specs.Prelude.{ℕ, ◌≡◌, ◌+◌, ◌*◌, ◌<◌, ◌≤◌, ◌/◌, ◌%◌, bit_and, List, Option, length, slice_index_or}
use Rattle.scr_cells.specs.CellViews.{CellView, blank_cell}
use Rattle.scr_cells.specs.Characters.{seen_character}
use Rattle.scr_cells.specs.LookViews.{LookView}
use Rattle.scr_cells.specs.declared.charsets.Charset.{Charset}
use Rattle.scr_cells.specs.Showing.{shown_in}
use Rattle.scr_cells.specs.Code.PackedPens.{coded_pen}

-- the look and the cell of a number
abbrev pub look_of : ℕ → LookView
look_of n = record { character = n % 65536; pen = coded_pen (n / 65536) }

abbrev pub cell_of : ℕ → CellView
cell_of n = record { character = n % 65536; attrs = n / 65536 % 256; pair = n / 16777216 }

-- eight numbers that say what a row shows in the eight places from one on
pub record ShowsEight (looks : Option (List LookView)) (at : ℕ) (lanes : List ℕ) : Type 0 where
  pub eight : length lanes ≡ 8
  pub each : (k : ℕ) → k < 8 → shown_in looks (at + k) ≡ look_of (slice_index_or lanes k 0)

-- a number below the limit has no pair, and only attributes that are shown
abbrev pub IsLimit : ℕ → ℕ → Type 0
IsLimit shown limit = (n : ℕ) → n < limit → (n < 16777216) × (bit_and shown (n / 65536 % 256) ≡ n / 65536 % 256)

-- the character of a number is seen as it is
abbrev pub IsSeenAsItIs : Charset → ℕ → Type 0
IsSeenAsItIs charset n = seen_character charset (n % 65536) ≡ n % 65536

-- a number that has none of these bits is below a limit, and its character is seen as it is
pub record HasLimit (charset : Charset) (shown hidden : ℕ) : Type 0 where
  pub limit : ℕ
  pub is : IsLimit shown limit
  pub whole : limit % 65536 ≡ 0
  pub below : (n : ℕ) → n < 4294967296 → bit_and n hidden ≡ 0 → n < limit
  pub itself : (n : ℕ) → bit_and n hidden ≡ 0 → IsSeenAsItIs charset n

-- a number of which these bits are kept is above what is left by a character alone, and that is seen as it is
pub record KeepsRendition (charset : Charset) (kept : ℕ) : Type 0 where
  pub each : (n base : ℕ) → n < 4294967296 → base % 65536 ≡ 0 → bit_and n kept ≡ base → (base ≤ n) × (n < base + 65536) × IsSeenAsItIs charset n

-- a base is the number of the first cell less its character, and each number that is above it by a character alone has no pair, and
-- only attributes that are shown
pub record HasBase (shown : ℕ) (cells : List CellView) (base : ℕ) : Type 0 where
  pub first : ℕ
  pub cell : slice_index_or cells 0 blank_cell ≡ cell_of first
  pub is : base ≡ first / 65536 * 65536
  pub shows : (n : ℕ) → base ≤ n → n < base + 65536 → (n < 16777216) × (bit_and shown (n / 65536 % 256) ≡ n / 65536 % 256)
