-- Elements that are numbers, eight at a time: words of private functions.
use Rattle.std.specs.Prelude.{ℕ, ◌≡◌, ◌+◌, ◌<◌, List, length, slice_index_or}

-- eight numbers that say what stands in the eight places from one on
pub record HasEight {A : Type 0} (coded : ℕ → A) (row : List A) (at : ℕ) (lanes : List ℕ) : Type 0 where
  pub eight : length lanes ≡ 8
  pub each : (k : ℕ) (other : A) → k < 8 → slice_index_or row (at + k) other ≡ coded (slice_index_or lanes k 0)
