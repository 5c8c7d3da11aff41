-- A session so far.
use Rattle.std.specs.Prelude.{ℕ, true, false, not, ◌≡◌, ◌<◌, ◌≤◌, List, [], ◌++◌, length, take, slice_index_or, Some}
use Rattle.std.specs.List.{list_all}
use Rattle.std.specs.Io.KnownBytes.{Appends}
use Rattle.scr_term.specs.declared.operations.operation.Op.{Op}
use Rattle.scr_term.specs.Operations.Profiles.{ProfileView, abilities}
use Rattle.scr_term.specs.Operations.States.{TerminalState, IsState}
use Rattle.scr_term.specs.Operations.Steps.{runs}
use Rattle.scr_term.specs.Operations.Texts.{all_bytes}
use Rattle.screen_sessions.specs.declared.answers.Answer.TheVariants.{Nothing}
use Rattle.screen_calls.specs.declared.calls.Call.TheVariants.{Doupdate}
use Rattle.screen_sessions.specs.declared.answers.Answer.{Answer}
use Rattle.screen_calls.specs.declared.calls.Call.{Call}
use Rattle.scr_memory.specs.Memories.{Agrees, MemoryView}
use Rattle.screen_sessions.specs.Making.{drawn_of}
use Rattle.curses.specs.ScreenStates.{ScreenState}
use Rattle.screen_sessions.specs.declared.sessions.Report.{Report}
use Rattle.screen_sessions.specs.Sessions.{Beginning, HoldsFrom, IsAnswer, IsKnownAt, IsKnownSince, IsSession, MayBegin, beginning_of, begun_in, count_in, counted_in, drawn_at, finishes_in, fresh_beginning, is_cut, is_update, last_ok_after, remembered_at}
use Rattle.curses.specs.Updates.{IsOfOneText}
use Rattle.curses.specs.Writers.{WriterView}

-- a screen that was just opened
pub record IsFresh (screen : ScreenState) : Type 0 where
  pub begins : beginning_of screen ≡ fresh_beginning screen.profile

-- calls were made on such a screen, and these answers given; the writer told this before and after
pub record AreMadeAfresh (profile : ProfileView) (calls : List Call) (old new : WriterView) (report : Report) : Type 0 where
  pub taken : List ℕ
  pub writer : Appends old.taken new.taken taken
  pub session : IsSession profile (fresh_beginning profile) calls report.answers taken
  pub any : (opened : TerminalState) → IsState (abilities profile) opened → HoldsFrom profile (fresh_beginning profile) calls report.answers taken 0 opened
  pub last : report.last_ok ≡ last_ok_after false report.answers
  pub puts : new.failed_puts ≡ counted_in is_cut report.answers old.failed_puts
  pub finishes : new.finishes ≡ finishes_in report.answers old.finishes

-- a terminal that was in one state is in this state after operations, which is as it is remembered
pub record Reached (profile : ProfileView) (memory : MemoryView) (opened : TerminalState) (begun : List Op) : Type 0 where
  pub now : TerminalState
  pub run : runs profile opened begun ≡ Some now
  pub agrees : Agrees (abilities profile) memory now

-- the first calls of a session were made, and answered so
pub record SoFar (profile : ProfileView) (first : Beginning) (begun : ScreenState) (calls : List Call) (answers : List Answer) (screen : ScreenState) (old new : WriterView) : Type 0 where
  pub same : screen.profile ≡ profile
  pub keys : screen.keys ≡ begun.keys
  pub opening : screen.opening ≡ begun.opening
  pub closing : screen.closing ≡ begun.closing
  pub drawn : drawn_of screen ≡ drawn_at first calls answers (length answers)
  pub memory : screen.memory ≡ remembered_at profile first calls answers (length answers)
  pub taken : List ℕ
  pub writer : Appends old.taken new.taken taken
  pub counted_all : count_in answers ≡ length taken
  pub puts : new.failed_puts ≡ counted_in is_cut answers old.failed_puts
  pub finishes : new.finishes ≡ finishes_in answers old.finishes
  pub right : (i : ℕ) → i < length answers → IsAnswer profile (remembered_at profile first calls answers i) (drawn_at first calls answers i) (slice_index_or calls i Doupdate) (slice_index_or answers i Nothing)
  pub bytes : taken ++ screen.owed ≡ first.owed ++ all_bytes profile (begun_in answers)
  pub one : IsOfOneText profile first.owed (begun_in answers) screen.owed
  -- where none of these calls was an update, nothing was begun
  pub quiet : list_all (λ call. not (is_update call)) (take (length answers) calls) ≡ true → begun_in answers ≡ []
  pub known : (j i : ℕ) → i ≤ length answers → IsKnownSince first calls answers j i → IsKnownAt profile first calls answers i
  pub holds : (n : ℕ) (opened : TerminalState) → n ≤ length answers → MayBegin profile first calls answers n opened → HoldsFrom profile first calls answers taken n opened
  pub reached : (n : ℕ) (opened : TerminalState) → n ≤ length answers → MayBegin profile first calls answers n opened → Reached profile screen.memory opened (begun_in answers)
