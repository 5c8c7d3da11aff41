-- What one call does to a screen and its writer.
use Rattle.std.specs.Prelude.{true, false, ◌≡◌, ◌≢◌, [], Some}
use Rattle.screen_sessions.specs.declared.answers.Answer.{Answer}
use Rattle.screen_calls.specs.declared.calls.Call.{Call}
use Rattle.curses.specs.ScreenStates.{ScreenState}
use Rattle.screen_sessions.specs.Sessions.{Drawn, IsAnswer, after_call, begun_of, count_of, finishes_after, is_cut, is_update, memory_then, tells_sent}
use Rattle.scr_memory.specs.Memories.{Agrees, MayBe, is_known}
use Rattle.scr_plan.specs.Plans.{IsPlan}
use Rattle.scr_term.specs.Operations.Profiles.{abilities}
use Rattle.scr_term.specs.Operations.States.{TerminalState}
use Rattle.scr_term.specs.Operations.Steps.{runs}
use Rattle.curses.specs.Updates.{IsSent}
use Rattle.curses.specs.Writers.{WriterView, counted}

-- The windows and the virtual screen of a screen.
abbrev pub drawn_of : ScreenState → Drawn
drawn_of screen = record { desk = screen.desk; virtual = screen.virtual }

-- A successful update: the operations begun are a plan for the picture, the picture stays, all that the terminal shows
-- is known, and nothing is owed. What was remembered was a possible state of the terminal.
pub record EndsWell (old new : ScreenState) (answer : Answer) : Type 0 where
  pub picture : new.virtual.picture ≡ old.virtual.picture
  pub plan : IsPlan old.profile old.memory old.virtual (begun_of answer)
  pub possible : MayBe (abilities old.profile) old.memory
  pub known : is_known new.memory ≡ true
  pub nothing : new.owed ≡ []

-- The call was made on the screen `old` and gave this answer; `before` and `after` are the writer's reports.
pub record IsMade (old new : ScreenState) (call : Call) (answer : Answer) (before after : WriterView) : Type 0 where
  pub profile : new.profile ≡ old.profile
  pub keys : new.keys ≡ old.keys
  pub opening : new.opening ≡ old.opening
  pub closing : new.closing ≡ old.closing
  pub drawn : drawn_of new ≡ after_call (drawn_of old) call answer
  pub memory : new.memory ≡ memory_then old.profile old.desk old.memory call answer
  pub right : IsAnswer old.profile old.memory (drawn_of old) call answer
  pub sent : IsSent old.profile old.memory old.owed before after (begun_of answer) (count_of answer) new.owed
  pub quiet : is_update call ≡ false → begun_of answer ≡ []
  -- If the terminal's state agreed with what was known, then after the operations begun it agrees with what is known
  -- now.
  pub agrees : (state next : TerminalState) → Agrees (abilities old.profile) old.memory state → runs old.profile state (begun_of answer) ≡ Some next
      → Agrees (abilities old.profile) new.memory next
  pub well : tells_sent answer ≡ true → EndsWell old new answer
  pub puts : after.failed_puts ≡ counted (is_cut answer) before.failed_puts
  pub finishes : after.finishes ≡ finishes_after answer before.finishes
  -- If the writer accepted something in a successful update, no put came after its finish.
  pub last : tells_sent answer ≡ true → count_of answer ≢ 0 → after.is_open ≡ false
