-- What a call of a session does to the windows and the virtual screen.
use Rattle.std.proofs.Common.{◌≡◌, ℕ, ◌+◌, leb, ltb, true, false, not, ◌&&◌, refl, sym, ◌∙◌, ap, subst, List, [], length, arith, Some, None, Result, Ok, Err, inl, inr, if◌then◌else◌}
use Rattle.scr_term.specs.declared.operations.operation.Op.{Op}
use Rattle.scr_term.specs.Operations.Profiles.{ProfileView, IsProfile, abilities}
use Rattle.scr_term.specs.Operations.States.{TerminalState, IsState}
use Rattle.scr_term.specs.Operations.Steps.{runs}
use Rattle.scr_memory.specs.Memories.{Agrees, MemoryLaws, MemoryView, disturbed, forgotten, is_known}
use Rattle.scr_memory.specs.MemoryRuns.{MemoryRuns}
use Rattle.scr_windows.specs.Calls.Reading.{screen_rows_answer, size_answer}
use Rattle.scr_windows.specs.declared.faults.Win.{Win}
use Rattle.scr_windows.specs.declared.faults.WinFault.{WinFault}
use Rattle.scr_windows.specs.declared.faults.WinFault.TheVariants as win_faults
use Rattle.scr_windows.specs.DeskViews.{DeskView}
use Rattle.scr_virtual.specs.VirtualViews.{VirtualView}
use Rattle.screen_sessions.specs.declared.answers.Answer.{Answer}
use Rattle.screen_sessions.specs.declared.answers.Answer.TheVariants.{Nothing, Refused, Sent, Made, Added, Seen, Pair, Touched, Failed}
use Rattle.screen_calls.specs.declared.calls.Call.{Call}
use Rattle.screen_calls.specs.declared.calls.Call.TheVariants.{RedrawWindow, RedrawLines, Doupdate}
use Rattle.screen_sessions.specs.Calls.{OnDeskOrRefused, answered, is_refusal, is_told, window_call}
use Rattle.curses.specs.Cuts.{IsCut}
use Rattle.curses.specs.declared.faults.Sent.{Sent as SentView}
use Rattle.curses.specs.declared.faults.UpdateFault.{UpdateFault}
use Rattle.curses.specs.declared.faults.UpdateFault.TheVariants as update_faults
use Rattle.screen_sessions.specs.Making.{IsMade, drawn_of}
use Rattle.curses.specs.Refreshing.{OnBoth, OnTerminal, OnVirtual, all_disturbed, lines_disturbed, redraw_lines_call, redraw_window_call, rows_disturbed, window_disturbed}
use Rattle.curses.specs.ScreenStates.{ScreenState}
use Rattle.screen_sessions.specs.Sessions.{Drawn, RightAnswer, begun_of, both_told, count_of, finishes_after, is_cut, is_update, left_by, marked_by, memory_then, memory_marked, memory_updated, ran_out, rows_told, screen_call, tells_sent, virtual_told, window_told, windows_told}
use Rattle.curses.specs.Updates.{IsFailed, IsSent, IsShown}
use Rattle.curses.specs.Writers.{Finishes, WriterView, counted}
use Rattle.screen_sessions.proofs.TakenLaws.{cut_none}

-- ---- calls that send nothing

-- nothing is begun, and what was owed is owed
sends_nothing : (profile : ProfileView) (memory : MemoryView) (owed rest : List ℕ) (w : WriterView) → rest ≡ owed → IsSent profile memory owed w w [] 0 rest
sends_nothing profile memory owed rest w same = record {
  cut = subst (IsCut owed [] w.taken w.taken 0) (sym same) (cut_none owed w.taken);
  one = omega (arith, ap length same);
  defined = λ state here. record { new = state; run = refl; state = here.is_state };
}

-- what agreed with what was remembered agrees with what is remembered then
abbrev pub StillAgrees : ProfileView → MemoryView → MemoryView → Type 0
StillAgrees profile old new = (state : TerminalState) → Agrees (abilities profile) old state → Agrees (abilities profile) new state

same_some : (a b : TerminalState) → Some a ≡ Some b → a ≡ b
same_some a b e = (cc)

agrees_on : (profile : ProfileView) (old new : MemoryView) (ops : List Op) → ops ≡ [] → StillAgrees profile old new → (state next : TerminalState) → Agrees (abilities profile) old state → runs profile state ops ≡ Some next
    → Agrees (abilities profile) new next
agrees_on profile old new ops none still state next agrees run =
    subst (Agrees (abilities profile) new) (same_some state next (sym (ap (runs profile state) none) ∙ run)) (still state agrees)

still_same : (profile : ProfileView) (old new : MemoryView) → new ≡ old → StillAgrees profile old new
still_same profile old new same state agrees = subst (λ m. Agrees (abilities profile) m state) (sym same) agrees

-- a state that agrees goes on to agree where less is remembered
disturbed_agrees : MemoryLaws → (profile : ProfileView) (memory : MemoryView) (first n : ℕ) (state : TerminalState) → Agrees (abilities profile) memory state → Agrees (abilities profile) (disturbed first n memory) state
disturbed_agrees memories profile memory first n state agrees =
    memories.others (abilities profile) (λ r. leb first r && ltb r (first + n)) memory (disturbed first n memory) state state agrees (record { state = agrees.is_state; same = λ r kept. refl })
    (memories.marks memory first n)

-- an answer that is the call's own says nothing of memory
own_answer : (own answer : Answer) → answer ≡ own → ran_out own answer ≡ false
own_answer own answer same = ap (λ a. ran_out a answer) (sym same) ∙ itself answer
  where
    itself : (a : Answer) → ran_out a a ≡ false
    itself (Refused win_faults.NoMemory) = refl
    itself a = refl

-- a call that is neither an update nor a mark
memory_kept : (profile : ProfileView) (desk : DeskView) (memory : MemoryView) (call : Call) (answer : Answer) → is_update call ≡ false → marked_by desk call ≡ None → memory_then profile desk memory call answer ≡ memory
memory_kept profile desk memory call answer update none =
    ap (λ b. if b then memory_updated profile memory answer else memory_marked memory (marked_by desk call)) update ∙ ap (memory_marked memory) none

-- what a session does not tell of an answer to a call that is no update
pub record Quiet (answer : Answer) : Type 0 where
  pub begun : begun_of answer ≡ []
  pub count : count_of answer ≡ 0
  pub well : tells_sent answer ≡ false
  pub cut : is_cut answer ≡ false
  pub finishes : (finishes : Finishes) → finishes_after answer finishes ≡ finishes

-- a call that is no update was made as its definition says
made_so : (old new : ScreenState) (call : Call) (answer : Answer) (w : WriterView) → is_update call ≡ false → Quiet answer → new.profile ≡ old.profile → new.keys ≡ old.keys → new.opening ≡ old.opening → new.closing ≡ old.closing → new.owed ≡ old.owed
    → new.memory ≡ memory_then old.profile old.desk old.memory call answer → StillAgrees old.profile old.memory new.memory
    → drawn_of new ≡ (screen_call (drawn_of old) call).0 → answer ≡ (screen_call (drawn_of old) call).1 → IsMade old new call answer w w
made_so old new call answer w update quiet profile keys opening closing owed memory still drawn own = record {
  profile = profile;
  keys = keys;
  opening = opening;
  closing = closing;
  drawn = drawn ∙ sym (ap (λ b. if b then drawn_of old else (screen_call (drawn_of old) call).0) (own_answer (screen_call (drawn_of old) call).1 answer own))
      ∙ sym (ap (λ b. left_by b (drawn_of old) (screen_call (drawn_of old) call) answer) update);
  memory = memory;
  right = subst (λ b. RightAnswer b old.profile old.memory (drawn_of old) call answer) (sym update) (inl own);
  quiet = λ _. quiet.begun;
  sent = subst (λ b. IsSent old.profile old.memory old.owed w w b (count_of answer) new.owed) (sym quiet.begun)
      (subst (λ n. IsSent old.profile old.memory old.owed w w [] n new.owed) (sym quiet.count) (sends_nothing old.profile old.memory old.owed new.owed w owed));
  agrees = agrees_on old.profile old.memory new.memory (begun_of answer) quiet.begun still;
  well = λ sent. absurd (never (sym sent ∙ quiet.well));
  puts = sym (ap (λ b. counted b w.failed_puts) quiet.cut);
  finishes = sym (quiet.finishes w.finishes);
  last = λ sent some. absurd (never (sym sent ∙ quiet.well));
}
  where
    never : true ≡ false → ⊥
    never e = (cc)

quiet_done : (got : Result (Unit {0}) WinFault) → Quiet (answered (λ _. Nothing) got)
quiet_done (Ok done) = record { begun = refl; count = refl; well = refl; cut = refl; finishes = λ f. refl }
quiet_done (Err fault) = record { begun = refl; count = refl; well = refl; cut = refl; finishes = λ f. refl }

-- a call that takes a window or a pad
pub both_made : (old new : ScreenState) (call : Call) (got : Result (Unit {0}) WinFault) (answer : Answer) (w : WriterView) (own : (VirtualView × DeskView) × Result (Unit {0}) WinFault)
    → is_update call ≡ false → marked_by old.desk call ≡ None → screen_call (drawn_of old) call ≡ both_told own → OnBoth old new got own → answer ≡ answered (λ _. Nothing) got → IsMade old new call answer w w
both_made old new call got answer w own update none called made told =
    subst (λ a. IsMade old new call a w w) (sym told)
    (made_so old new call (answered (λ _. Nothing) got) w update (quiet_done got) (ap (λ s. s.profile) made.0) (ap (λ s. s.keys) made.0) (ap (λ s. s.opening) made.0) (ap (λ s. s.closing) made.0) (ap (λ s. s.owed) made.0)
    (ap (λ s. s.memory) made.0 ∙ sym (memory_kept old.profile old.desk old.memory call (answered (λ _. Nothing) got) update none)) (still_same old.profile old.memory new.memory (ap (λ s. s.memory) made.0))
    (ap drawn_of made.0 ∙ sym (ap (λ c. c.0) called)) (ap (answered (λ _. Nothing)) made.1 ∙ sym (ap (λ c. c.1) called)))

-- a call that changes the virtual screen alone
pub virtual_made : (old new : ScreenState) (call : Call) (got : Result (Unit {0}) WinFault) (answer : Answer) (w : WriterView) (own : VirtualView × Result (Unit {0}) WinFault)
    → is_update call ≡ false → marked_by old.desk call ≡ None → screen_call (drawn_of old) call ≡ virtual_told old.desk own → OnVirtual old new got own → answer ≡ answered (λ _. Nothing) got → IsMade old new call answer w w
virtual_made old new call got answer w own update none called made told =
    subst (λ a. IsMade old new call a w w) (sym told)
    (made_so old new call (answered (λ _. Nothing) got) w update (quiet_done got) (ap (λ s. s.profile) made.0) (ap (λ s. s.keys) made.0) (ap (λ s. s.opening) made.0) (ap (λ s. s.closing) made.0) (ap (λ s. s.owed) made.0)
    (ap (λ s. s.memory) made.0 ∙ sym (memory_kept old.profile old.desk old.memory call (answered (λ _. Nothing) got) update none)) (still_same old.profile old.memory new.memory (ap (λ s. s.memory) made.0))
    (ap drawn_of made.0 ∙ sym (ap (λ c. c.0) called)) (ap (answered (λ _. Nothing)) made.1 ∙ sym (ap (λ c. c.1) called)))

-- a call that says that others wrote on the screen
pub terminal_made : (old new : ScreenState) (call : Call) (got : Result (Unit {0}) WinFault) (answer : Answer) (w : WriterView) (own : VirtualView × Result (Unit {0}) WinFault) (memory : MemoryView)
    → is_update call ≡ false → memory ≡ memory_marked old.memory (marked_by old.desk call) → screen_call (drawn_of old) call ≡ virtual_told old.desk own → OnTerminal old new got own memory → StillAgrees old.profile old.memory memory
    → answer ≡ answered (λ _. Nothing) got → IsMade old new call answer w w
terminal_made old new call got answer w own memory update left called made still told =
    subst (λ a. IsMade old new call a w w) (sym told)
    (made_so old new call (answered (λ _. Nothing) got) w update (quiet_done got) (ap (λ s. s.profile) made.0) (ap (λ s. s.keys) made.0) (ap (λ s. s.opening) made.0) (ap (λ s. s.closing) made.0) (ap (λ s. s.owed) made.0)
    (ap (λ s. s.memory) made.0 ∙ left ∙ sym (ap (λ b. if b then memory_updated old.profile old.memory (answered (λ _. Nothing) got) else memory_marked old.memory (marked_by old.desk call)) update))
    (subst (StillAgrees old.profile old.memory) (sym (ap (λ s. s.memory) made.0)) still)
    (ap drawn_of made.0 ∙ sym (ap (λ c. c.0) called)) (ap (answered (λ _. Nothing)) made.1 ∙ sym (ap (λ c. c.1) called)))

still_disturbed : MemoryLaws → (profile : ProfileView) (memory : MemoryView) (rows : Result (ℕ × ℕ) WinFault) → StillAgrees profile memory (rows_disturbed memory rows)
still_disturbed laws profile memory (Err fault) state agrees = agrees
still_disturbed laws profile memory (Ok rows) state agrees = disturbed_agrees laws profile memory rows.0 rows.1 state agrees

-- a mark leaves its rows out
told_marked : (memory : MemoryView) (rows : Result (ℕ × ℕ) WinFault) → rows_disturbed memory rows ≡ memory_marked memory (rows_told rows)
told_marked memory (Err fault) = refl
told_marked memory (Ok rows) = refl

pub lines_made : MemoryLaws → (old new : ScreenState) (win : Win) (first n : ℕ) (got : Result (Unit {0}) WinFault) (answer : Answer) (w : WriterView)
    → OnTerminal old new got (redraw_lines_call old.virtual old.desk win.0 first n) (lines_disturbed old.memory old.desk win.0 first n) → answer ≡ answered (λ _. Nothing) got
    → IsMade old new (RedrawLines win first n) answer w w
lines_made laws old new win first n got answer w made told =
    let rows = screen_rows_answer old.desk win.0 first n in
    terminal_made old new (RedrawLines win first n) got answer w (redraw_lines_call old.virtual old.desk win.0 first n) (lines_disturbed old.memory old.desk win.0 first n) refl (told_marked old.memory rows) refl made
    (still_disturbed laws old.profile old.memory rows) told

pub window_made : MemoryLaws → (old new : ScreenState) (win : Win) (got : Result (Unit {0}) WinFault) (answer : Answer) (w : WriterView)
    → OnTerminal old new got (redraw_window_call old.virtual old.desk win.0) (window_disturbed old.memory old.desk win.0) → answer ≡ answered (λ _. Nothing) got
    → IsMade old new (RedrawWindow win) answer w w
window_made laws old new win got answer w made told =
    terminal_made old new (RedrawWindow win) got answer w (redraw_window_call old.virtual old.desk win.0) (window_disturbed old.memory old.desk win.0) refl (left (size_answer old.desk win.0)) refl made
    (still (size_answer old.desk win.0)) told
  where
    left : (size : Result (ℕ × ℕ) WinFault) → all_disturbed old.memory old.desk win.0 size ≡ memory_marked old.memory (window_told old.desk win.0 size)
    left (Err fault) = refl
    left (Ok size) = told_marked old.memory (screen_rows_answer old.desk win.0 0 size.0)

    still : (size : Result (ℕ × ℕ) WinFault) → StillAgrees old.profile old.memory (all_disturbed old.memory old.desk win.0 size)
    still (Err fault) state agrees = agrees
    still (Ok size) state agrees = still_disturbed laws old.profile old.memory (screen_rows_answer old.desk win.0 0 size.0) state agrees

-- ---- updates

untrue : false ≡ true → ⊥
untrue e = (cc)

-- what is forgotten agrees with every state
forgets_all : {w v : WriterView} {count : ℕ} {rest : List ℕ} → MemoryLaws → (old new : ScreenState) (begun : List Op) → new.memory ≡ forgotten old.memory → IsSent old.profile old.memory old.owed w v begun count rest
    → (state next : TerminalState) → Agrees (abilities old.profile) old.memory state → runs old.profile state begun ≡ Some next → Agrees (abilities old.profile) new.memory next
forgets_all laws old new begun memory sent state next agrees run =
    let defined = sent.defined state agrees in
    subst (λ m. Agrees (abilities old.profile) m next) (sym memory)
    (laws.forgets (abilities old.profile) old.memory next agrees.high (subst (IsState (abilities old.profile)) (same_some defined.new next (sym defined.run ∙ run)) defined.state))

pub shown_made : MemoryRuns → (old new : ScreenState) (sent : SentView) (before after : WriterView) → IsProfile old.profile → IsShown old new before after sent → IsMade old new Doupdate (Sent sent) before after
shown_made runs old new sent before after is shown = record {
  profile = ap (λ s. s.profile) shown.screen;
  keys = ap (λ s. s.keys) shown.screen;
  opening = ap (λ s. s.opening) shown.screen;
  closing = ap (λ s. s.closing) shown.screen;
  drawn = ap drawn_of shown.screen;
  memory = ap (λ s. s.memory) shown.screen;
  right = shown.updated.plan;
  quiet = λ other. absurd (untrue (sym other));
  sent = shown.updated.sent;
  agrees = λ state next agrees run. subst (λ m. Agrees (abilities old.profile) m next) (sym (ap (λ s. s.memory) shown.screen)) (runs.follows old.profile is old.memory shown.updated.possible state next sent.begun agrees run);
  well = λ well. record {
    picture = ap (λ s. s.virtual.picture) shown.screen;
    plan = shown.updated.plan;
    possible = shown.updated.possible;
    known = ap (λ s. is_known s.memory) shown.screen ∙ shown.updated.known;
    nothing = ap (λ s. s.owed) shown.screen;
  };
  puts = shown.updated.puts;
  finishes = shown.updated.finished.finishes;
  last = λ well some. shown.updated.finished.last some;
}

pub failed_made : MemoryLaws → (old new : ScreenState) (fault : UpdateFault) (before after : WriterView) → IsFailed old new before after fault → IsMade old new Doupdate (Failed fault) before after
failed_made laws old new update_faults.NoMemory before after failed = record {
  profile = ap (λ s. s.profile) failed.screen;
  keys = ap (λ s. s.keys) failed.screen;
  opening = ap (λ s. s.opening) failed.screen;
  closing = ap (λ s. s.closing) failed.screen;
  drawn = ap drawn_of failed.screen;
  memory = ap (λ s. s.memory) failed.screen;
  right = tt;
  quiet = λ other. absurd (untrue (sym other));
  sent = subst (λ w. IsSent old.profile old.memory old.owed before w [] 0 new.owed) (sym failed.fault_told.1) (sends_nothing old.profile old.memory old.owed new.owed before failed.fault_told.0);
  agrees = agrees_on old.profile old.memory new.memory [] refl (still_same old.profile old.memory new.memory (ap (λ s. s.memory) failed.screen));
  well = λ well. absurd (untrue well);
  puts = ap (λ w. w.failed_puts) failed.fault_told.1;
  finishes = ap (λ w. w.finishes) failed.fault_told.1;
  last = λ well some. absurd (untrue well);
}
failed_made laws old new (update_faults.Write begun count kind) before after failed = record {
  profile = ap (λ s. s.profile) failed.screen;
  keys = ap (λ s. s.keys) failed.screen;
  opening = ap (λ s. s.opening) failed.screen;
  closing = ap (λ s. s.closing) failed.screen;
  drawn = ap drawn_of failed.screen;
  memory = ap (λ s. s.memory) failed.screen;
  right = failed.fault_told.begins;
  quiet = λ other. absurd (untrue (sym other));
  sent = failed.fault_told.sent;
  agrees = forgets_all laws old new begun (ap (λ s. s.memory) failed.screen) failed.fault_told.sent;
  well = λ well. absurd (untrue well);
  puts = failed.fault_told.puts;
  finishes = failed.fault_told.finishes;
  last = λ well some. absurd (untrue well);
}
failed_made laws old new (update_faults.Flush begun count kind) before after failed = record {
  profile = ap (λ s. s.profile) failed.screen;
  keys = ap (λ s. s.keys) failed.screen;
  opening = ap (λ s. s.opening) failed.screen;
  closing = ap (λ s. s.closing) failed.screen;
  drawn = ap drawn_of failed.screen;
  memory = ap (λ s. s.memory) failed.screen;
  right = failed.fault_told.plan;
  quiet = λ other. absurd (untrue (sym other));
  sent = failed.fault_told.sent;
  agrees = forgets_all laws old new begun (ap (λ s. s.memory) failed.screen) failed.fault_told.sent;
  well = λ well. absurd (untrue well);
  puts = failed.fault_told.puts;
  finishes = failed.fault_told.finished.finishes;
  last = λ well some. absurd (untrue well);
}

-- ---- calls on windows

-- what a call that is no update answers says nothing of one
quiet_told : (answer : Answer) → is_told answer ≡ true → Quiet answer
quiet_told Nothing told = quiet_done (Ok tt)
quiet_told (Made win) told = record { begun = refl; count = refl; well = refl; cut = refl; finishes = λ f. refl }
quiet_told (Added all) told = record { begun = refl; count = refl; well = refl; cut = refl; finishes = λ f. refl }
quiet_told (Seen cell) told = record { begun = refl; count = refl; well = refl; cut = refl; finishes = λ f. refl }
quiet_told (Pair a b) told = record { begun = refl; count = refl; well = refl; cut = refl; finishes = λ f. refl }
quiet_told (Touched touched) told = record { begun = refl; count = refl; well = refl; cut = refl; finishes = λ f. refl }
quiet_told (Refused fault) told = record { begun = refl; count = refl; well = refl; cut = refl; finishes = λ f. refl }
quiet_told (Sent sent) told = absurd (untrue told)
quiet_told (Failed fault) told = absurd (untrue told)

-- a call that is none of the screen's own
pub record IsOnWindows (drawn : Drawn) (call : Call) : Type 0 where
  pub called : screen_call drawn call ≡ windows_told drawn.virtual (window_call drawn.desk call)
  pub updates : is_update call ≡ false
  pub marks : marked_by drawn.desk call ≡ None

-- a call on windows
pub windows_made : (old new : ScreenState) (call : Call) (answer : Answer) (w : WriterView) → IsOnWindows (drawn_of old) call → is_told answer ≡ true → OnDeskOrRefused old new answer call → IsMade old new call answer w w
windows_made old new call answer w is told (inl made) =
    made_so old new call answer w is.updates (quiet_told answer told) (ap (λ s. s.profile) made.0) (ap (λ s. s.keys) made.0) (ap (λ s. s.opening) made.0) (ap (λ s. s.closing) made.0) (ap (λ s. s.owed) made.0)
    (ap (λ s. s.memory) made.0 ∙ sym (memory_kept old.profile old.desk old.memory call answer is.updates is.marks)) (still_same old.profile old.memory new.memory (ap (λ s. s.memory) made.0))
    (ap drawn_of made.0 ∙ sym (ap (λ c. c.0) is.called)) (made.1 ∙ sym (ap (λ c. c.1) is.called))
windows_made old new call answer w is told (inr refused) =
    let own : Answer = (screen_call (drawn_of old) call).1 in
    let suits : is_refusal own ≡ false = ap (λ c. is_refusal c.1) is.called ∙ refused.2 in
    let out : ran_out own (Refused win_faults.NoMemory) ≡ true = ap not suits in
    subst (λ a. IsMade old new call a w w) (sym refused.1) (record {
      profile = ap (λ s. s.profile) refused.0;
      keys = ap (λ s. s.keys) refused.0;
      opening = ap (λ s. s.opening) refused.0;
      closing = ap (λ s. s.closing) refused.0;
      drawn = ap drawn_of refused.0 ∙ sym (ap (λ b. if b then drawn_of old else (screen_call (drawn_of old) call).0) out)
          ∙ sym (ap (λ b. left_by b (drawn_of old) (screen_call (drawn_of old) call) (Refused win_faults.NoMemory)) is.updates);
      memory = ap (λ s. s.memory) refused.0 ∙ sym (memory_kept old.profile old.desk old.memory call (Refused win_faults.NoMemory) is.updates is.marks);
      right = subst (λ b. RightAnswer b old.profile old.memory (drawn_of old) call (Refused win_faults.NoMemory)) (sym is.updates) (inr (refl, suits, refused.3));
      quiet = λ _. refl;
      sent = sends_nothing old.profile old.memory old.owed new.owed w (ap (λ s. s.owed) refused.0);
      agrees = agrees_on old.profile old.memory new.memory [] refl (still_same old.profile old.memory new.memory (ap (λ s. s.memory) refused.0));
      well = λ sent. absurd (never sent);
      puts = refl;
      finishes = refl;
      last = λ sent some. absurd (never sent);
    })
  where
    never : false ≡ true → ⊥
    never e = (cc)
