-- A writer for tests: it takes some bytes, fails a number of times, and so on with each further fault, and then takes
-- everything.
use Rattle.std.specs.Prelude.{ℕ, zero, ◌+◌, ◌-◌, ◌≡◌, ◌<◌, ◌&&◌, ◌++◌, Bool, true, nat_le, nat_lt, min, List, [], ◌∷◌, length, take, Result, Ok, Err, if◌then◌else◌}
use Rattle.std.specs.IoError.{error_kind}
use Rattle.std.specs.declared.io.Error.{Error}
use Rattle.std.specs.declared.io.ErrorKind.{ErrorKind}
use Rattle.std.specs.declared.io.ErrorKind.TheVariants.{Other, OutOfMemory}
use Rattle.curses.specs.Writers.{counted}
use Rattle.screen_sessions.specs.declared.faulty.WriterFailure.{WriterFailure}
use Rattle.screen_sessions.specs.declared.faulty.WriterFailure.TheVariants as failures
use Rattle.screen_sessions.specs.declared.faulty.WriterFault.{WriterFault}

-- The bytes accepted so far, and how many there is room for without more memory; the fault that comes next, and how many
-- of its failures are left; the faults after it, each of which fails once; and how often the writer was called.
pub record FaultyView : Type 0 where
  pub taken : List ℕ
  pub room : ℕ
  pub fault : WriterFault
  pub left : ℕ
  pub later : List WriterFault
  pub calls : ℕ

-- A writer that took these bytes so far, has so much room, and fails once at each of these faults.
abbrev pub with_faults : List ℕ → ℕ → List WriterFault → FaultyView
with_faults taken room [] =
    record {
      taken = taken;
      room = room;
      fault = record { limit = 0; failure = failures.Error; kind = Other };
      left = 0;
      later = [];
      calls = 0;
    }
with_faults taken room (fault ∷ later) = record { taken = taken; room = room; fault = fault; left = 1; later = later; calls = 0 }

-- The limit is reached and failures are left.
abbrev pub is_due : FaultyView → Bool
is_due writer = nat_le writer.fault.limit (length writer.taken) && nat_lt 0 writer.left

-- The writer was called once more.
abbrev pub called : FaultyView → FaultyView
called writer = record writer { calls = counted true writer.calls }

-- Where no failure is left, the next fault comes, which fails once.
abbrev pub going_on_by : ℕ → List WriterFault → FaultyView → FaultyView
going_on_by zero (next ∷ later) writer = record writer { fault = next; left = 1; later = later }
going_on_by left later writer = writer

abbrev pub going_on : FaultyView → FaultyView
going_on writer = going_on_by writer.left writer.later writer

-- One failure fewer is left.
abbrev pub failed_once : FaultyView → FaultyView
failed_once writer = going_on (record writer { left = writer.left - 1 })

-- How many of n bytes a write takes if it does not fail. A write that begins before the limit stops there.
abbrev pub room_for : FaultyView → ℕ → ℕ
room_for writer n =
    if nat_lt (length writer.taken) writer.fault.limit then min (writer.fault.limit - length writer.taken) n else n

-- The writer takes the first `count` bytes of the piece.
abbrev pub taking : FaultyView → List ℕ → ℕ → FaultyView × Result ℕ ErrorKind
taking writer piece count = (record writer { taken = writer.taken ++ take count piece }, Ok count)

-- What a write does when a failure is due (`true`) or not.
abbrev pub write_that : Bool → WriterFailure → FaultyView → List ℕ → FaultyView × Result ℕ ErrorKind
write_that true failures.Error writer piece = (failed_once writer, Err writer.fault.kind)
write_that true failures.Zero writer piece = (failed_once writer, Ok 0)
write_that due failure writer piece = taking writer piece (room_for writer (length piece))

-- A write of a piece: the writer after it, and its answer.
abbrev pub write_call : FaultyView → List ℕ → FaultyView × Result ℕ ErrorKind
write_call writer piece = write_that (is_due writer) writer.fault.failure (called writer) piece

-- What a flush does when a failure is due (`true`) or not.
abbrev pub flush_that : Bool → WriterFailure → FaultyView → FaultyView × Result (Unit {0}) ErrorKind
flush_that true failures.Flush writer = (failed_once writer, Err writer.fault.kind)
flush_that due failure writer = (writer, Ok tt)

-- A flush: the writer after it, and its answer.
abbrev pub flush_call : FaultyView → FaultyView × Result (Unit {0}) ErrorKind
flush_call writer = flush_that (is_due writer) writer.fault.failure (called writer)

-- Writer and answer are as the call's definition says; what room there is then is not.
abbrev pub IsAnswered : {A : Type 0} → FaultyView → Result A Error → FaultyView × Result A ErrorKind → Type 0
IsAnswered new (Ok value) call = (new ≡ record call.0 { room = new.room }) × (call.1 ≡ Ok value)
IsAnswered new (Err error) call = (new ≡ record call.0 { room = new.room }) × (call.1 ≡ Err (error_kind error))

-- The writer has no room for the bytes that a write is to take.
abbrev pub IsFull : FaultyView → Result ℕ ErrorKind → Type 0
IsFull writer (Ok count) = writer.room < length writer.taken + count
IsFull writer (Err kind) = ⊥

-- Memory ran out in a write that was to take bytes for which there was no room; the writer has only counted the call.
abbrev pub RanOut : FaultyView → FaultyView → Result ℕ Error → FaultyView × Result ℕ ErrorKind → Type 0
RanOut old new (Ok value) call = ⊥
RanOut old new (Err error) call = IsFull old call.1 × (new ≡ record (called old) { room = new.room }) × (error_kind error ≡ OutOfMemory)
