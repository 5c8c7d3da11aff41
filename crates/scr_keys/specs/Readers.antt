-- A key reader: the keys that can be taken, and the bytes that are not decided yet. X/Open Curses Issue 7, getch().
use Rattle.std.specs.Prelude.{ℕ, ◌+◌, List, [], ◌∷◌, ◌++◌, length, Option, Some, None, Result, Ok, Err, nat_le, if◌then◌else◌}
use Rattle.scr_keys.specs.declared.keys.Key.{Key}
use Rattle.scr_keys.specs.declared.faults.KeyFault.{KeyFault}
use Rattle.scr_keys.specs.declared.faults.KeyFault.TheVariants.{QueueFull}
use Rattle.scr_keys.specs.Keys.{Keys, decided, keys_in, longest_text, undecided}

-- The terminal's keys; the keys read but not taken yet; and the bytes that wait for more.
pub record ReaderView : Type 0 where
  pub keys : Keys
  pub queue : List Key
  pub waiting : List ℕ

-- The number of keys that can be queued.
abbrev pub room : ReaderView → ℕ
room reader = 16 + longest_text reader.keys

-- The keys are queued and these bytes wait, if all the keys fit; otherwise nothing changes (`QueueFull`).
abbrev pub added : ReaderView → List Key → List ℕ → ReaderView × Result (Unit {0}) KeyFault
added reader new waiting =
    if nat_le (length reader.queue + length new) (room reader) then (record reader { queue = reader.queue ++ new; waiting = waiting }, Ok tt)
    else (reader, Err QueueFull)

-- A byte arrives: the keys that it decides are queued.
abbrev pub byte_read : ReaderView → ℕ → ReaderView × Result (Unit {0}) KeyFault
byte_read reader byte = added reader (decided reader.keys (reader.waiting ++ byte ∷ [])) (undecided reader.keys (reader.waiting ++ byte ∷ []))

-- No byte arrives for a while: the waiting bytes are read as the keys that they are.
abbrev pub idle_read : ReaderView → ReaderView × Result (Unit {0}) KeyFault
idle_read reader = added reader (keys_in reader.keys reader.waiting) []

-- Takes the first key of the queue.
abbrev pub taken_of : ReaderView → List Key → ReaderView × Option Key
taken_of reader [] = (reader, None)
taken_of reader (key ∷ queue) = (record reader { queue = queue }, Some key)

-- Takes the reader's first key.
abbrev pub key_taken : ReaderView → ReaderView × Option Key
key_taken reader = taken_of reader reader.queue
