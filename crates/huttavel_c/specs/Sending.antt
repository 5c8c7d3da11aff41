-- Bytes that a screen made, and that wait until the terminal has accepted them.
use Rattle.std.specs.Prelude.{ℕ, ◌≡◌, ◌++◌, List, Some, Result, Ok, Err, MatchResult, drop, length, min, nat_le, take, if◌then◌else◌}
use Rattle.scr_memory.specs.Memories.{forgotten}
use Rattle.curses.specs.ScreenStates.{ScreenState}
use Rattle.curses.specs.Starting.{IsClosed, IsNotClosed, IsNotStarted, IsStarted}
use Rattle.curses.specs.Updates.{IsFailed, IsShown}
use Rattle.curses.specs.Writers.{WriterView, finishes_of}
use Rattle.curses.specs.declared.faults.SendFault.{SendFault}
use Rattle.curses.specs.declared.faults.Sent.{Sent}
use Rattle.curses.specs.declared.faults.UpdateFault.{UpdateFault}
use Rattle.huttavel_c.specs.Numbers.{send_number, update_number}
use Rattle.huttavel_c.specs.declared.sessions.Session.{Session}

-- The bytes that wait.
abbrev pub waiting : Session → List ℕ
waiting session = session.out.writer.items

-- To the screen, the bytes that wait are those that its writer accepted.
abbrev pub writer : Session → WriterView
writer session = record {
  taken = Some (waiting session);
  failed_puts = session.out.failed_puts;
  finishes = finishes_of session.out.finishes session.out.failed_finishes;
  is_open = session.out.is_open;
}

-- The numbers of how a start or a finish, and an update ended.
abbrev pub sent_number : Result ℕ SendFault → ℕ
sent_number (Ok count) = 0
sent_number (Err fault) = send_number fault

abbrev pub updated_number : Result Sent UpdateFault → ℕ
updated_number (Ok sent) = 0
updated_number (Err fault) = update_number fault

-- A start of the screen ended so, and this is its number.
pub record Starts (old new : Session) (answer : ℕ) : Type 0 where
  pub ended : Result ℕ SendFault
  pub is : MatchResult ended (IsStarted old.screen new.screen (writer old) (writer new)) (IsNotStarted old.screen new.screen (writer old) (writer new))
  pub number : answer ≡ sent_number ended

-- A finish.
pub record Finishes (old new : Session) (answer : ℕ) : Type 0 where
  pub ended : Result ℕ SendFault
  pub is : MatchResult ended (IsClosed old.screen new.screen (writer old) (writer new)) (IsNotClosed old.screen new.screen (writer old) (writer new))
  pub number : answer ≡ sent_number ended

-- An update.
pub record Updates (old new : Session) (answer : ℕ) : Type 0 where
  pub ended : Result Sent UpdateFault
  pub is : MatchResult ended (IsShown old.screen new.screen (writer old) (writer new)) (IsFailed old.screen new.screen (writer old) (writer new))
  pub number : answer ≡ updated_number ended

-- How many bytes wait. Nothing changes.
abbrev pub Waits : Session → Session → ℕ → Type 0
Waits old new answer = (new ≡ old) × (answer ≡ length (waiting old))

-- The first bytes that wait were copied, as many as there was room for. Nothing of the session changes.
abbrev pub Copies : List ℕ → List ℕ → Session → Session → ℕ → Type 0
Copies before after old new answer =
    (new ≡ old) × (answer ≡ min (length (waiting old)) (length before)) × (after ≡ take answer (waiting old) ++ drop answer before)

-- Without the first bytes that wait; 33 if there are not so many.
abbrev pub taken_off : ℕ → List ℕ → List ℕ × ℕ
taken_off count bytes = if nat_le count (length bytes) then (drop count bytes, 0) else (bytes, 33)

-- The terminal accepted bytes. The screen does not change, nor how many puts and finishes failed.
pub record Takes (count : ℕ) (old new : Session) (answer : ℕ) : Type 0 where
  pub screen : new.screen ≡ old.screen
  pub waits : waiting new ≡ (taken_off count (waiting old)).0
  pub puts : new.out.failed_puts ≡ old.out.failed_puts
  pub finishes : new.out.failed_finishes ≡ old.out.failed_finishes
  pub number : answer ≡ (taken_off count (waiting old)).1

-- Nothing is known of the terminal any more.
abbrev pub forgetting : ScreenState → ScreenState × ℕ
forgetting screen = (record screen { memory = forgotten screen.memory }, 0)
