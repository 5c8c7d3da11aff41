-- What a read of the keyboard gives.
use Rattle.std.specs.Prelude.{ℕ, ◌≤◌, ◌<◌, ◌+◌, ⊤, Bool, true, false, List, [], length, min, take, nat_lt, if◌then◌else◌}
use Rattle.std.specs.declared.io.ErrorKind.{ErrorKind}
use Rattle.std.specs.declared.io.ErrorKind.TheVariants.{Interrupted}
use Rattle.terminal.specs.declared.input.Input.{Input}
use Rattle.terminal.specs.declared.input.Input.TheVariants as inputs

-- Of bytes that were read there is one at least, and they are in the piece.
abbrev pub IsWithin : List ℕ → Input → Type 0
IsWithin piece (inputs.Bytes count) = (0 < count) × (count ≤ length piece)
IsWithin piece input = ⊤

-- The bytes of a piece that were read.
abbrev pub bytes_of : List ℕ → Input → List ℕ
bytes_of piece (inputs.Bytes count) = take count piece
bytes_of piece input = []

-- How many empty reads in a row were sudden, after one that took so many nanoseconds: 3 at most.
abbrev pub sudden_after : ℕ → ℕ → ℕ
sudden_after sudden nanoseconds = if nat_lt nanoseconds 20000000 then min (sudden + 1) 3 else 0

-- What an empty read means, where so many in a row were sudden.
abbrev pub empty_input : ℕ → Input
empty_input sudden = if nat_lt sudden 3 then inputs.Idle else inputs.Ended

-- What a read means that failed so: a signal ends one that waits.
abbrev pub failed_input : ErrorKind → Input
failed_input Interrupted = inputs.Idle
failed_input kind = inputs.Failed

-- What a program hears of a read: where nothing came, that it is asked to end, or else to stop.
abbrev pub heard : Bool → Bool → Input → Input
heard true is_stopping inputs.Idle = inputs.Ended
heard false true inputs.Idle = inputs.Stop
heard is_ending is_stopping input = input
