-- Sessions: lists of calls on one screen, and what is promised about them. X/Open Curses Issue 7; curs_refresh(3X).
use Rattle.std.specs.Prelude.{ℕ, Bool, true, false, not, ◌&&◌, ◌||◌, leb, ltb, if◌then◌else◌, ◌≡◌, ◌+◌, ◌<◌, ◌≤◌, ◌⊎◌, List, [], ◌∷◌, ◌++◌, length, take, slice_index_or, Option, Some, None, is_some, Result, Ok, Err}
use Rattle.std.specs.List.{flat_map, list_all}
use Rattle.std.specs.Io.KnownBytes.{Appends}
use Rattle.scr_cells.specs.PictureViews.{PictureView}
use Rattle.scr_cells.specs.declared.sizes.Size.{Size}
use Rattle.ti_caps.specs.Description.{Description}
use Rattle.scr_term.specs.declared.operations.operation.Op.{Op}
use Rattle.scr_term.specs.Ecma.Meanings.{Leads}
use Rattle.scr_term.specs.Operations.Admission.{IsAdmittedAs, IsEcma48}
use Rattle.scr_term.specs.Operations.Painted.{Shows}
use Rattle.scr_term.specs.Operations.Profiles.{ProfileView, abilities}
use Rattle.scr_term.specs.Operations.States.{TerminalState, IsState, negative_state}
use Rattle.scr_term.specs.Operations.Steps.{runs}
use Rattle.scr_term.specs.Operations.Texts.{all_bytes}
use Rattle.scr_windows.specs.declared.faults.WinFault.{WinFault}
use Rattle.scr_windows.specs.declared.faults.WinFault.TheVariants as win_faults
use Rattle.scr_windows.specs.DeskViews.{DeskView, first_desk}
use Rattle.scr_virtual.specs.VirtualViews.{VirtualView, blank_virtual, settled}
use Rattle.scr_virtual.specs.Pairs.{set_pair_call, set_pair_of_call}
use Rattle.scr_virtual.specs.Taking.{take_pad_call, take_window_call}
use Rattle.scr_windows.specs.Calls.Reading.{screen_rows_answer, size_answer}
use Rattle.scr_memory.specs.Memories.{Agrees, IsDisturbance, MayBe, MemoryView, all_followed, disturbed, is_known, remembered, unknown}
use Rattle.scr_plan.specs.Plans.{IsPlan}
use Rattle.scr_plan.specs.Repaints.{joined_of}
use Rattle.scr_keys.specs.Tables.{too_long}
use Rattle.screen_sessions.specs.declared.answers.Answer.{Answer}
use Rattle.screen_sessions.specs.declared.answers.Answer.TheVariants.{Failed, Nothing, Refused, Sent}
use Rattle.screen_calls.specs.declared.calls.Call.{Call}
use Rattle.screen_calls.specs.declared.calls.Call.TheVariants.{Doupdate, Noutrefresh, PadNoutrefresh, RedrawLines, RedrawWindow, SetPair, SetPairOf}
use Rattle.curses.specs.Adapted.{AdaptedView, IsAnySizeOn}
use Rattle.curses.specs.Opening.{default_opening, served}
use Rattle.curses.specs.declared.opening.Opening.{Opening}
use Rattle.curses.specs.declared.faults.UpdateFault.TheVariants as update_faults
use Rattle.curses.specs.declared.faults.UpdateFault.TheVariants.{Flush, Write}
use Rattle.screen_sessions.specs.declared.sessions.Report.{Report}
use Rattle.screen_sessions.specs.Calls.{answered, is_refusal, takes_memory, window_call}
use Rattle.curses.specs.Refreshing.{redraw_lines_call, redraw_window_call}
use Rattle.curses.specs.ScreenStates.{ScreenState}
use Rattle.curses.specs.Updates.{BeginsPlan, IsOfOneText, memory_after}
use Rattle.curses.specs.Writers.{Finishes, WriterView, counted, finished, finished_after}

-- ---- the fold of the calls

-- What the calls work on: the windows, and the virtual screen that they are copied to.
pub record Drawn : Type 0 where
  pub desk : DeskView
  pub virtual : VirtualView

-- At the start: one blank window that covers the whole screen, and a blank picture.
abbrev pub first_drawn : ℕ → ℕ → Drawn
first_drawn rows columns = record { desk = first_desk rows columns; virtual = blank_virtual rows columns }

-- A call that changed virtual screen and windows: both after it, and its answer.
abbrev pub both_told : (VirtualView × DeskView) × Result (Unit {0}) WinFault → Drawn × Answer
both_told call = (record { desk = call.0.1; virtual = call.0.0 }, answered (λ _. Nothing) call.1)

-- A call that changed only the virtual screen.
abbrev pub virtual_told : DeskView → VirtualView × Result (Unit {0}) WinFault → Drawn × Answer
virtual_told desk call = (record { desk = desk; virtual = call.0 }, answered (λ _. Nothing) call.1)

-- A call that changed only the windows.
abbrev pub windows_told : VirtualView → DeskView × Answer → Drawn × Answer
windows_told virtual call = (record { desk = call.0; virtual = virtual }, call.1)

-- What each call other than an update does to windows and virtual screen, and its answer.
abbrev pub screen_call : Drawn → Call → Drawn × Answer
screen_call drawn (Noutrefresh win) = both_told (take_window_call drawn.virtual drawn.desk win.0)
screen_call drawn (PadNoutrefresh win row column top left bottom right) = both_told (take_pad_call drawn.virtual drawn.desk win.0 row column top left bottom right)
screen_call drawn (SetPair pair foreground background) = virtual_told drawn.desk (set_pair_call drawn.virtual pair foreground background)
screen_call drawn (SetPairOf pair foreground background) = virtual_told drawn.desk (set_pair_of_call drawn.virtual pair foreground background)
screen_call drawn (RedrawWindow win) = virtual_told drawn.desk (redraw_window_call drawn.virtual drawn.desk win.0)
screen_call drawn (RedrawLines win first n) = virtual_told drawn.desk (redraw_lines_call drawn.virtual drawn.desk win.0 first n)
screen_call drawn call = windows_told drawn.virtual (window_call drawn.desk call)

-- The call is an update. Its answer is not computed here: it depends on the operations chosen and on the writer.
abbrev pub is_update : Call → Bool
is_update Doupdate = true
is_update call = false

-- The answer is that of a successful update.
abbrev pub tells_sent : Answer → Bool
tells_sent (Sent sent) = true
tells_sent answer = false

-- The update's answer is right. After success or a failed flush, the operations begun are a plan; after a failed write,
-- they are the beginning of one; memory may run out at any time.
abbrev pub RightUpdate : ProfileView → MemoryView → VirtualView → Answer → Type 0
RightUpdate profile memory virtual (Sent sent) = IsPlan profile memory virtual sent.begun
RightUpdate profile memory virtual (Failed (Write begun sent kind)) = BeginsPlan profile memory virtual begun
RightUpdate profile memory virtual (Failed (Flush begun sent kind)) = IsPlan profile memory virtual begun
RightUpdate profile memory virtual (Failed update_faults.NoMemory) = Unit {0}
RightUpdate profile memory virtual answer = ⊥

-- The answer of any other call is right: it is the one computed (`own`). Or memory ran out, in a call that allocates
-- and that nothing else refuses.
abbrev pub RightOther : Call → Answer → Answer → Type 0
RightOther call own answer = (answer ≡ own) ⊎ ((answer ≡ Refused win_faults.NoMemory) × (is_refusal own ≡ false) × (takes_memory call ≡ true))

-- The answer is right, for an update (`true`) or any other call.
abbrev pub RightAnswer : Bool → ProfileView → MemoryView → Drawn → Call → Answer → Type 0
RightAnswer true profile memory drawn call answer = RightUpdate profile memory drawn.virtual answer
RightAnswer false profile memory drawn call answer = RightOther call (screen_call drawn call).1 answer

-- The answer is right for this call on these windows and this virtual screen.
abbrev pub IsAnswer : ProfileView → MemoryView → Drawn → Call → Answer → Type 0
IsAnswer profile memory drawn call answer = RightAnswer (is_update call) profile memory drawn call answer

-- A successful update leaves nothing marked for repainting; a failed one changes neither windows nor virtual screen.
abbrev pub after_update : Drawn → Answer → Drawn
after_update drawn (Sent sent) = record drawn { virtual = settled drawn.virtual }
after_update drawn answer = drawn

-- The call failed only because memory ran out, so it changed nothing. `own` is the answer that it has with enough
-- memory.
abbrev pub ran_out : Answer → Answer → Bool
ran_out own (Refused win_faults.NoMemory) = not (is_refusal own)
ran_out own answer = false

-- What a call leaves, given its answer; `true` stands for an update.
abbrev pub left_by : Bool → Drawn → Drawn × Answer → Answer → Drawn
left_by true drawn call answer = after_update drawn answer
left_by false drawn call answer = if ran_out call.1 answer then drawn else call.0

-- Windows and virtual screen after a call with this answer.
abbrev pub after_call : Drawn → Call → Answer → Drawn
after_call drawn call answer = left_by (is_update call) drawn (screen_call drawn call) answer

-- The same after several calls with these answers.
abbrev pub after_calls : Drawn → List Call → List Answer → Drawn
after_calls drawn [] answers = drawn
after_calls drawn (call ∷ calls) [] = drawn
after_calls drawn (call ∷ calls) (answer ∷ answers) = after_calls (after_call drawn call answer) calls answers

-- ---- what is remembered of the terminal

-- What is known of the terminal after an update. Success: the effect of its operations; a failed write or flush:
-- nothing.
abbrev pub memory_updated : ProfileView → MemoryView → Answer → MemoryView
memory_updated profile memory (Sent sent) = all_followed profile sent.begun memory
memory_updated profile memory (Failed fault) = memory_after fault memory
memory_updated profile memory answer = memory

-- The rows a redraw call names, as first row and number of rows; none if the call is refused.
abbrev pub rows_told : Result (ℕ × ℕ) WinFault → Option (ℕ × ℕ)
rows_told (Err fault) = None
rows_told (Ok rows) = Some rows

-- The rows of the screen that a whole window covers, given the window's size.
abbrev pub window_told : DeskView → ℕ → Result (ℕ × ℕ) WinFault → Option (ℕ × ℕ)
window_told desk win (Err fault) = None
window_told desk win (Ok size) = rows_told (screen_rows_answer desk win 0 size.0)

-- The rows of the screen that a call marks as overwritten by others, if it is a redraw call that is not refused.
abbrev pub marked_by : DeskView → Call → Option (ℕ × ℕ)
marked_by desk (RedrawWindow win) = window_told desk win.0 (size_answer desk win.0)
marked_by desk (RedrawLines win first n) = rows_told (screen_rows_answer desk win.0 first n)
marked_by desk call = None

-- After a redraw call, the named rows, the cursor's position and the pen are no longer known.
abbrev pub memory_marked : MemoryView → Option (ℕ × ℕ) → MemoryView
memory_marked memory None = memory
memory_marked memory (Some rows) = disturbed rows.0 rows.1 memory

-- What is known of the terminal after a call with this answer.
abbrev pub memory_then : ProfileView → DeskView → MemoryView → Call → Answer → MemoryView
memory_then profile desk memory call answer =
    if is_update call then memory_updated profile memory answer else memory_marked memory (marked_by desk call)

-- The same after several calls.
abbrev pub remembered_after : ProfileView → Drawn → MemoryView → List Call → List Answer → MemoryView
remembered_after profile drawn memory [] answers = memory
remembered_after profile drawn memory (call ∷ calls) [] = memory
remembered_after profile drawn memory (call ∷ calls) (answer ∷ answers) =
    remembered_after profile (after_call drawn call answer) (memory_then profile drawn.desk memory call answer) calls answers

-- ---- what was begun and taken

-- The operations that an update began to send.
abbrev pub begun_of : Answer → List Op
begun_of (Sent sent) = sent.begun
begun_of (Failed (Write begun sent kind)) = begun
begun_of (Failed (Flush begun sent kind)) = begun
begun_of answer = []

-- The number of bytes that the writer accepted during the update.
abbrev pub count_of : Answer → ℕ
count_of (Sent sent) = sent.bytes
count_of (Failed (Write begun sent kind)) = sent
count_of (Failed (Flush begun sent kind)) = sent
count_of answer = 0

-- All operations begun by the updates of a session, in order.
abbrev pub begun_in : List Answer → List Op
begun_in answers = flat_map begun_of answers

-- The number of bytes accepted in a session.
abbrev pub count_in : List Answer → ℕ
count_in [] = 0
count_in (answer ∷ answers) = count_of answer + count_in answers

-- ---- failures of the writer

-- An update that ended with a failed write.
abbrev pub is_cut : Answer → Bool
is_cut (Failed (Write begun sent kind)) = true
is_cut answer = false

-- A count, raised by one for each answer of the given kind.
abbrev pub counted_in : (Answer → Bool) → List Answer → ℕ → ℕ
counted_in kind [] count = count
counted_in kind (answer ∷ answers) count = counted_in kind answers (counted (kind answer) count)

-- The writer's finishes after an update: one more after a successful one in which it accepted something, and one more
-- that failed after one that ended with a failed flush.
abbrev pub finishes_after : Answer → Finishes → Finishes
finishes_after (Sent sent) finishes = finished_after sent.bytes finishes
finishes_after (Failed (Flush begun sent kind)) finishes = finished true finishes
finishes_after answer finishes = finishes

-- The same after several calls.
abbrev pub finishes_in : List Answer → Finishes → Finishes
finishes_in [] finishes = finishes
finishes_in (answer ∷ answers) finishes = finishes_in answers (finishes_after answer finishes)

-- ---- the promise

-- The terminal shows a picture: nothing is owed (no text was cut short); its cells, attributes, colours and cursor are
-- those of the picture, as far as it can show them. On the bundled ECMA-48 entry, if nothing was owed at the start, the
-- bytes accepted, read as an ECMA-48 text, lead to the negative of its state (reverse in place of standout).
pub record IsShowing (profile : ProfileView) (opened now : TerminalState) (before owed taken : List ℕ) (picture : PictureView) : Type 0 where
  pub nothing : owed ≡ []
  pub shows : Shows (abilities profile) now picture
  pub leads : before ≡ [] → IsEcma48 profile → Leads profile.charset profile.rows profile.columns (negative_state opened) taken (negative_state now)

-- What holds right after a call, if the terminal was in state `opened` at the start or, where the bytes `before` were
-- owed then, is in it after these. The operations begun so far are all defined and lead to the state `now`. The bytes
-- taken so far, followed by those owed, are `before` followed by the texts of these operations; what is owed is at most
-- one text long. After a successful update (`well`) the terminal shows the picture.
pub record Moment (profile : ProfileView) (opened : TerminalState) (before : List ℕ) (picture : PictureView) (begun : List Op) (taken : List ℕ) (well : Bool) : Type 0 where
  pub now : TerminalState
  pub run : runs profile opened begun ≡ Some now
  pub owed : List ℕ
  pub bytes : taken ++ owed ≡ before ++ all_bytes profile begun
  pub one : IsOfOneText profile before begun owed
  pub showing : well ≡ true → IsShowing profile opened now before owed taken picture

-- ---- economy

-- This update took no more bytes than the joined repaint does when the terminal's whole state, `now`, is known.
abbrev pub IsCheap : ProfileView → TerminalState → PictureView → Answer → Type 0
IsCheap profile now picture answer = count_of answer ≤ length (all_bytes profile (joined_of profile (remembered profile.rows profile.columns now) picture))

-- Less may be known of the terminal after the call: a write or a flush failed, or a redraw call was accepted.
abbrev pub forgets : DeskView → Call → Answer → Bool
forgets desk call (Failed (Write begun sent kind)) = true
forgets desk call (Failed (Flush begun sent kind)) = true
forgets desk call answer = is_some (marked_by desk call)

-- ---- a session

-- Where a session starts: windows and virtual screen, what is known of the terminal, and the bytes owed.
pub record Beginning : Type 0 where
  pub drawn : Drawn
  pub memory : MemoryView
  pub owed : List ℕ

-- The start on a screen that was just opened: blank, nothing known of the terminal, nothing owed.
abbrev pub fresh_beginning : ProfileView → Beginning
fresh_beginning profile = record {
  drawn = first_drawn profile.rows profile.columns;
  memory = unknown profile.rows profile.columns;
  owed = [];
}

-- The start on any screen.
abbrev pub beginning_of : ScreenState → Beginning
beginning_of screen = record { drawn = record { desk = screen.desk; virtual = screen.virtual }; memory = screen.memory; owed = screen.owed }

-- Windows and virtual screen after the first n calls.
abbrev pub drawn_at : Beginning → List Call → List Answer → ℕ → Drawn
drawn_at first calls answers n = after_calls first.drawn (take n calls) (take n answers)

-- What is known of the terminal after the first n calls.
abbrev pub remembered_at : ProfileView → Beginning → List Call → List Answer → ℕ → MemoryView
remembered_at profile first calls answers n = remembered_after profile first.drawn first.memory (take n calls) (take n answers)

-- After these answers nothing is owed: the writer accepted what was owed at the start and the texts of all operations
-- that were begun.
abbrev pub OwesNothing : ProfileView → Beginning → List Answer → Type 0
OwesNothing profile first answers = count_in answers ≡ length first.owed + length (all_bytes profile (begun_in answers))

-- Call j was a successful update, and since then, before call i, no write and no flush failed and no redraw call was
-- accepted.
pub record IsKnownSince (first : Beginning) (calls : List Call) (answers : List Answer) (j i : ℕ) : Type 0 where
  pub before : j < i
  pub well : tells_sent (slice_index_or answers j Nothing) ≡ true
  pub kept : (k : ℕ) → j < k → k < i → forgets (drawn_at first calls answers k).desk (slice_index_or calls k Doupdate) (slice_index_or answers k Nothing) ≡ false

-- All that the terminal shows is known before call i, and nothing is owed.
pub record IsKnownAt (profile : ProfileView) (first : Beginning) (calls : List Call) (answers : List Answer) (i : ℕ) : Type 0 where
  pub all : is_known (remembered_at profile first calls answers i) ≡ true
  pub nothing : OwesNothing profile first (take i answers)

-- The terminal may be in the state `opened` after n calls, none of them an update: the state agrees with what is known
-- then. In rows that these calls marked it may differ, and so may cursor and pen, since others may have written there.
pub record MayBegin (profile : ProfileView) (first : Beginning) (calls : List Call) (answers : List Answer) (n : ℕ) (opened : TerminalState) : Type 0 where
  pub quiet : list_all (λ call. not (is_update call)) (take n calls) ≡ true
  pub agrees : Agrees (abilities profile) (remembered_at profile first calls answers n) opened

-- What holds of all calls after the first n, if the terminal was then in the state `opened`.
pub record HoldsFrom (profile : ProfileView) (first : Beginning) (calls : List Call) (answers : List Answer) (taken : List ℕ) (n : ℕ) (opened : TerminalState) : Type 0 where
  -- Right after each of them, `Moment` holds: what is begun, taken, owed and shown fits together.
  pub moments : (i : ℕ) → n ≤ i → i < length answers
      → Moment profile opened first.owed (drawn_at first calls answers (i + 1)).virtual.picture (begun_in (take (i + 1) answers)) (take (count_in (take (i + 1) answers)) taken)
      (tells_sent (slice_index_or answers i Nothing))
  -- A successful update after an earlier one sends no more than the joined repaint, if no write and no flush failed and
  -- no redraw call was accepted in between, and no repaint was requested.
  pub cheap : (j i : ℕ) → n ≤ i → i < length answers → IsKnownSince first calls answers j i → (drawn_at first calls answers i).virtual.repaint ≡ false
      → tells_sent (slice_index_or answers i Nothing) ≡ true → (now : TerminalState) → runs profile opened (begun_in (take i answers)) ≡ Some now
      → IsCheap profile now (drawn_at first calls answers i).virtual.picture (slice_index_or answers i Nothing)
  -- So it is for the first update too, if all was known when the session began.
  pub cheap_where_known : (i : ℕ) → n ≤ i → i < length answers → IsKnownAt profile first calls answers i → (drawn_at first calls answers i).virtual.repaint ≡ false
      → tells_sent (slice_index_or answers i Nothing) ≡ true → (now : TerminalState) → runs profile opened (begun_in (take i answers)) ≡ Some now
      → IsCheap profile now (drawn_at first calls answers i).virtual.picture (slice_index_or answers i Nothing)

-- A session: each answer is right. Whatever state the terminal may be in at the start, or after any number of first
-- calls that are not updates, the promises hold from there on. `taken` is all that the writer accepted.
pub record IsSession (profile : ProfileView) (first : Beginning) (calls : List Call) (answers : List Answer) (taken : List ℕ) : Type 0 where
  pub answered_all : length answers ≡ length calls
  pub counted_all : count_in answers ≡ length taken
  pub right : (i : ℕ) → i < length answers
      → IsAnswer profile (remembered_at profile first calls answers i) (drawn_at first calls answers i) (slice_index_or calls i Doupdate) (slice_index_or answers i Nothing)
  -- After a successful update all that the terminal shows is known and nothing is owed, until a write or a flush fails
  -- or a redraw call is accepted.
  pub known : (j i : ℕ) → i ≤ length answers → IsKnownSince first calls answers j i → IsKnownAt profile first calls answers i
  pub holds : (n : ℕ) (opened : TerminalState) → n ≤ length answers → MayBegin profile first calls answers n opened → HoldsFrom profile first calls answers taken n opened

-- Whether the last update succeeded; false before the first one.
abbrev pub ended_well : Bool → Answer → Bool
ended_well before (Sent sent) = true
ended_well before (Failed fault) = false
ended_well before answer = before

-- The same after several calls.
abbrev pub last_ok_after : Bool → List Answer → Bool
last_ok_after before [] = before
last_ok_after before (answer ∷ answers) = last_ok_after (ended_well before answer) answers

-- These calls were made on a screen, and the report gives their answers. The writer's failed puts are exactly the
-- updates that ended with a failed write, and it was finished exactly after the others in which it accepted something.
-- What was known of the terminal at the start was possible on it. The screen then holds what the calls make of it, and
-- every state that the terminal can have reached agrees with what is known of it.
pub record AreMade (old new : ScreenState) (calls : List Call) (before after : WriterView) (report : Report) : Type 0 where
  pub possible : MayBe (abilities old.profile) old.memory
  pub taken : List ℕ
  pub writer : Appends before.taken after.taken taken
  pub session : IsSession old.profile (beginning_of old) calls report.answers taken
  pub last : report.last_ok ≡ last_ok_after false report.answers
  pub puts : after.failed_puts ≡ counted_in is_cut report.answers before.failed_puts
  pub finishes : after.finishes ≡ finishes_in report.answers before.finishes
  pub profile : new.profile ≡ old.profile
  pub keys : new.keys ≡ old.keys
  pub opening : new.opening ≡ old.opening
  pub closing : new.closing ≡ old.closing
  pub drawn : (beginning_of new).drawn ≡ drawn_at (beginning_of old) calls report.answers (length report.answers)
  pub memory : new.memory ≡ remembered_at old.profile (beginning_of old) calls report.answers (length report.answers)
  pub bytes : taken ++ new.owed ≡ old.owed ++ all_bytes old.profile (begun_in report.answers)
  pub agrees : (n : ℕ) (opened now : TerminalState) → n ≤ length report.answers → MayBegin old.profile (beginning_of old) calls report.answers n opened → runs old.profile opened (begun_in report.answers) ≡ Some now
      → Agrees (abilities old.profile) new.memory now

-- The report of a session on a screen opened on this entry with these options; `old` and `new` are the writer before
-- and after.
pub record IsReportAs (asked : Opening) (entry : Description) (size : Option Size) (calls : List Call) (old new : WriterView) (report : Report) : Type 0 where
  pub profile : ProfileView
  pub admitted : IsAdmittedAs asked.charset (served asked entry) size profile
  pub keys : too_long asked.keys entry ≡ None
  pub taken : List ℕ
  pub writer : Appends old.taken new.taken taken
  pub session : IsSession profile (fresh_beginning profile) calls report.answers taken
  -- The promises hold whatever state of the profile the terminal was in when the screen was opened.
  pub any : (opened : TerminalState) → IsState (abilities profile) opened → HoldsFrom profile (fresh_beginning profile) calls report.answers taken 0 opened
  pub last : report.last_ok ≡ last_ok_after false report.answers
  pub puts : new.failed_puts ≡ counted_in is_cut report.answers old.failed_puts
  pub finishes : new.finishes ≡ finishes_in report.answers old.finishes

-- The same on an entry as programs take it, on a terminal of this size, if one is given.
pub record IsReportAdapted (asked : Opening) (adapted : AdaptedView) (given : Option Size) (calls : List Call) (old new : WriterView) (report : Report) : Type 0 where
  pub size : Option Size
  pub sized : IsAnySizeOn adapted.is_narrow given size
  pub is : IsReportAs asked adapted.entry size calls old new report

-- The same if nothing is asked for.
abbrev pub IsReport : Description → Option Size → List Call → WriterView → WriterView → Report → Type 0
IsReport entry size calls old new report = IsReportAs default_opening entry size calls old new report

-- ---- rows that others wrote on

-- The row is one of these.
abbrev pub is_row_of : Option (ℕ × ℕ) → ℕ → Bool
is_row_of None r = false
is_row_of (Some rows) r = leb rows.0 r && ltb r (rows.0 + rows.1)

-- One of the calls is an accepted redraw call.
abbrev pub has_mark : Drawn → List Call → List Answer → Bool
has_mark drawn [] answers = false
has_mark drawn (call ∷ calls) [] = false
has_mark drawn (call ∷ calls) (answer ∷ answers) = is_some (marked_by drawn.desk call) || has_mark (after_call drawn call answer) calls answers

-- One of the calls is an accepted redraw call that marks this row.
abbrev pub is_marked : Drawn → List Call → List Answer → ℕ → Bool
is_marked drawn [] answers r = false
is_marked drawn (call ∷ calls) [] r = false
is_marked drawn (call ∷ calls) (answer ∷ answers) r = is_row_of (marked_by drawn.desk call) r || is_marked (after_call drawn call answer) calls answers r

-- The first n calls are not updates, and together they mark each of these rows. At least one is an accepted redraw
-- call, which also forgets the cursor's position and the pen.
pub record MarksAll (rows : ℕ → Bool) (first : Beginning) (calls : List Call) (answers : List Answer) (n : ℕ) : Type 0 where
  pub quiet : list_all (λ call. not (is_update call)) (take n calls) ≡ true
  pub some : has_mark first.drawn (take n calls) (take n answers) ≡ true
  pub each : (r : ℕ) → rows r ≡ true → is_marked first.drawn (take n calls) (take n answers) r ≡ true

-- Others wrote on the terminal at the start of a session: it was in a state that agrees with what is known, and is in
-- the state `changed` now, which differs in these rows, the cursor's position and the pen at most.
pub record OthersWrote (profile : ProfileView) (first : Beginning) (rows : ℕ → Bool) (changed : TerminalState) : Type 0 where
  pub before : TerminalState
  pub agrees : Agrees (abilities profile) first.memory before
  pub wrote : IsDisturbance (abilities profile) rows before changed

-- If others wrote on the terminal at the start of a session, and each of the rows is marked before the first update,
-- all promises hold from there on: after the next successful update the terminal shows the picture, with its bytes and
-- economy.
abbrev pub DisturbedRowsHoldAgain : Type 0
DisturbedRowsHoldAgain =
    (profile : ProfileView) (first : Beginning) (calls : List Call) (answers : List Answer) (taken : List ℕ) → IsSession profile first calls answers taken
    → (rows : ℕ → Bool) (changed : TerminalState) → OthersWrote profile first rows changed
    → (n : ℕ) → n ≤ length answers → MarksAll rows first calls answers n → HoldsFrom profile first calls answers taken n changed
