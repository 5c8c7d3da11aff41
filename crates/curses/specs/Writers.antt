-- What a writer reports: the bytes that it took, and how often it failed.
use Rattle.std.specs.Prelude.{ℕ, ◌≡◌, ◌≢◌, Bool, true, false, List, length, Option, Result, Ok, Err, ◌+◌, ◌-◌, ◌^◌, ◌==◌, ◌&&◌, not, min, if◌then◌else◌}
use Rattle.std.specs.declared.io.Error.{Error}

-- The finishes so far: how many were asked for, and how many of them failed.
pub record Finishes : Type 0 where
  pub asked : ℕ
  pub failed : ℕ

-- So many were asked for, and so many of them failed.
abbrev pub finishes_of : ℕ → ℕ → Finishes
finishes_of asked failed = record { asked = asked; failed = failed }

-- All bytes accepted so far, if they are known; the number of puts of a non-empty piece that failed or accepted
-- nothing; the finishes; and whether a put came after the last of them.
pub record WriterView : Type 0 where
  pub taken : Option (List ℕ)
  pub failed_puts : ℕ
  pub finishes : Finishes
  pub is_open : Bool

-- What a write answers: how many bytes it took, or an error; and what a flush answers.
abbrev pub WriteAnswer : Type 0
WriteAnswer = Result ℕ Error

abbrev pub FlushAnswer : Type 0
FlushAnswer = Result (Unit {0}) Error

-- A count, raised by one after a failure; it stops at the greatest 64-bit number.
abbrev pub counted : Bool → ℕ → ℕ
counted failed count = if failed then min (count + 1) (2 ^ 64 - 1) else count

-- One finish more was asked for, and failed or not.
abbrev pub finished : Bool → Finishes → Finishes
finished failed finishes = finishes_of (counted true finishes.asked) (counted failed finishes.failed)

-- The finishes after texts of which `count` bytes were accepted, if none failed: one more, unless nothing was accepted.
abbrev pub finished_after : ℕ → Finishes → Finishes
finished_after count finishes = if count == 0 then finishes else finished false finishes

-- After texts of which `count` bytes were accepted the writer was finished, and no put came after that; if nothing was
-- accepted, it was not.
pub record IsFinished (count : ℕ) (old new : WriterView) : Type 0 where
  pub finishes : new.finishes ≡ finished_after count old.finishes
  pub last : count ≢ 0 → new.is_open ≡ false

-- The writer was to be finished, which failed, and no put came after that.
pub record IsFinishFailed (old new : WriterView) : Type 0 where
  pub finishes : new.finishes ≡ finished true old.finishes
  pub last : new.is_open ≡ false

-- The answer to a put says that nothing was accepted.
abbrev pub took_none : {E : Type 0} → Result ℕ E → Bool
took_none (Ok taken) = taken == 0
took_none (Err error) = true

-- The put failed: the piece is not empty, and nothing of it was accepted.
abbrev pub is_failed_put : {E : Type 0} → List ℕ → Result ℕ E → Bool
is_failed_put piece answer = not (length piece == 0) && took_none answer

-- The finish failed.
abbrev pub is_failed_finish : {A E : Type 0} → Result A E → Bool
is_failed_finish (Ok value) = false
is_failed_finish (Err error) = true
