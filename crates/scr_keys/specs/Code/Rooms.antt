-- What a reader has had room for since it was made.
use Rattle.std.specs.Prelude.{ℕ, ◌≤◌, ◌<◌, length}
use Rattle.scr_keys.specs.Keys.{longest_text}
use Rattle.scr_keys.specs.Readers.{ReaderView, room}

-- as many keys wait as may, there is room for all that may, and for a byte more than wait
pub record HasRoom (reader : ReaderView) (keys bytes : ℕ) : Type 0 where
  pub few : length reader.queue ≤ room reader
  pub queue : room reader ≤ keys
  pub short : length reader.waiting < 64
  pub waiting : 64 ≤ bytes
  pub texts : longest_text reader.keys ≤ 64
